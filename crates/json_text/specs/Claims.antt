-- What is claimed of strings. proofs/Kept.antt proves it.
-- Assumes nothing.
use Rattle.std.specs.Prelude.{ℕ, ◌≡◌, true, List}
use Rattle.json_text.specs.Grammar.{Chars}
use Rattle.json_text.specs.Decoded.{Parsed, decoded, is_text, same_text}
use Rattle.json_text.specs.Decoded.Parsed.{ok, none}
use Rattle.json_text.specs.Ends.{Ends}
use Rattle.json_text.specs.declared.Read.{Read}

pub record Claims : Type 1 where
  -- the definition that the code equals reads the grammar, and a text has one meaning
  pub sound : (t r d : List ℕ) → decoded t ≡ ok d r → Chars t r d
  pub complete : {t r d : List ℕ} → Chars t r d → decoded t ≡ ok d r
  pub refused : {t r d : List ℕ} → decoded t ≡ none → Chars t r d → ⊥
  pub once : {t r d r' d' : List ℕ} → Chars t r d → Chars t r' d' → (r ≡ r') × (d ≡ d')
  -- `is_name` is true of a string of those code points, and `same` of two strings of the same ones
  pub named : (t n : List ℕ) → is_text (decoded t) n ≡ true → (r : List ℕ) × Chars t r n
  pub named' : {t r n : List ℕ} → Chars t r n → is_text (decoded t) n ≡ true
  pub alike : (t u : List ℕ) → same_text (decoded t) (decoded u) ≡ true → (d r r' : List ℕ) × Chars t r d × Chars u r' d
  pub alike' : {t u r r' d : List ℕ} → Chars t r d → Chars u r' d → same_text (decoded t) (decoded u) ≡ true
  -- an answer about a reading is the only one
  pub answered : {A : Type 0} {s : List ℕ} {at : ℕ} {p : Parsed A} {q r : Read} → Ends s at p q → Ends s at p r → q ≡ r
