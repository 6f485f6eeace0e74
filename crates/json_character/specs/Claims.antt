-- What is claimed of characters. proofs/Kept.antt proves it.
-- Assumes nothing.
use Rattle.std.specs.Prelude.{ℕ, ◌+◌, ◌<◌, ◌≡◌, List, ◌∷◌, ◌++◌, length, drop}
use Rattle.json_character.specs.Utf8.{Utf8}
use Rattle.json_character.specs.Encoded.{Scalar, utf8}
use Rattle.json_character.specs.Grammar.{Character}
use Rattle.json_character.specs.Char.{char_of}
use Rattle.json_character.specs.declared.Char.TheVariants.{One, Close}

pub record Claims : Type 0 where
  -- the definition that the code equals reads the grammar's characters, each of 1 + w bytes that are there, and the closing mark
  pub sound : (t : List ℕ) (c w : ℕ) → char_of t ≡ One c w → (w < length t) × Character t (drop (1 + w) t) c
  pub complete : {t r : List ℕ} {c : ℕ} → Character t r c → (w : ℕ) × (char_of t ≡ One c w) × (drop (1 + w) t ≡ r)
  pub closed : (t : List ℕ) → char_of t ≡ Close → t ≡ 0x22 ∷ drop 1 t
  pub closing : (r : List ℕ) → char_of (0x22 ∷ r) ≡ Close
  -- the rows of UTF-8 read what `utf8` writes, nothing else, and no surrogate
  pub written : (c : ℕ) → Scalar c → (r : List ℕ) → Utf8 (utf8 c ++ r) r c
  pub only : {t r : List ℕ} {c : ℕ} → Utf8 t r c → t ≡ utf8 c ++ r
  pub scalar : {t r : List ℕ} {c : ℕ} → Utf8 t r c → Scalar c
