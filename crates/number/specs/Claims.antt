-- What is claimed of the strings that are used. proofs/Kept.antt proves it.
-- Assumes nothing.
use Rattle.std.specs.Prelude.{◌≡◌, true, List, [], ◌∷◌, ℕ, ◌≤◌, ◌<◌, length, get_or}
use Rattle.basis.specs.Text.{text}
use Rattle.number.specs.Alphabet.{is_label}

-- "bytes 0x20 to 0x7E without `"` and `\`"
pub record OfAlphabet (b : ℕ) : Type 0 where
  pub least : 0x20 ≤ b
  pub most : b ≤ 0x7E
  pub no_quote : b ∷ [] ≡ text "\"" → ⊥
  pub no_backslash : b ∷ [] ≡ text "\\" → ⊥

-- "1 to 32 bytes of the table's alphabet"
pub record Used (s : List ℕ) : Type 0 where
  pub some : 1 ≤ length s
  pub short : length s ≤ 32
  pub each : (i : ℕ) → i < length s → OfAlphabet (get_or s i 0)

pub record Claims : Type 0 where
  -- the labels are these strings, and no other
  pub used : (s : List ℕ) → is_label s ≡ true → Used s
  pub label : (s : List ℕ) → Used s → is_label s ≡ true
