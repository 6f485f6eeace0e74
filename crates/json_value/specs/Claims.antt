-- What is claimed of values. proofs/Kept.antt proves it.
-- Assumes nothing.
use Rattle.std.specs.Prelude.{ℕ, ◌≤◌, ◌≡◌, List}
use Rattle.json_text.specs.Decoded.Parsed.{ok, none}
use Rattle.json_value.specs.Grammar.{Json, Value}
use Rattle.json_value.specs.Reader.{read_value}
use Rattle.json_value.specs.Means.{Means}

pub record Claims : Type 0 where
  -- the reader that the code equals reads the grammar, at every number of levels
  pub sound : (l : ℕ) (t r : List ℕ) (j : Json) → read_value l t ≡ ok j r → Value l t r j
  pub complete : {l : ℕ} {t r : List ℕ} {j : Json} → Value l t r j → read_value l t ≡ ok j r
  pub refused : {l : ℕ} {t r : List ℕ} {j : Json} → read_value l t ≡ none → Value l t r j → ⊥
  -- a text has one meaning and one rest, and so a place one meaning
  pub once : {l : ℕ} {t r u : List ℕ} {j k : Json} → Value l t r j → Value l t u k → (j ≡ k) × (r ≡ u)
  pub means_once : {s : List ℕ} {p : ℕ} {j k : Json} → Means s p j → Means s p k → j ≡ k
  -- what has at most l levels has at most m
  pub deeper : {l : ℕ} {t r : List ℕ} {j : Json} (m : ℕ) → l ≤ m → Value l t r j → Value m t r j
