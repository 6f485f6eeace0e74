-- Reading an identity: a text is accepted exactly where, in either case, it is the text of sixteen bytes, and those are the answer.
-- Assumes nothing.
use Rattle.std.specs.Prelude.{◌≡◌, true, false, List, [], ◌∷◌, map, ℕ, ◌+◌, ◌*◌, ◌<◌, length, get_or, replicate}
use Rattle.basis.specs.Pick.{pick}
use Rattle.identity.specs.declared.ReadIdentity.{ReadIdentity}
use Rattle.identity.specs.Hex.{hex_value, lowered}
use Rattle.identity.specs.Text.{identity_text}
use Rattle.basis.specs.Lists.{same_bytes}

pub record SixteenBytes (bs : List ℕ) : Type 0 where
  pub sixteen : length bs ≡ 16
  pub bytes : (k : ℕ) → get_or bs k 0 < 256

-- s, with its letters A to F made small, is the text of the sixteen bytes bs
pub record Says (s bs : List ℕ) : Type 0 where
  pub valid : SixteenBytes bs
  pub said : lowered s ≡ identity_text bs

abbrev pub found : List ℕ → ReadIdentity
found bs = record { found = true; id = record { bytes = bs } }

abbrev pub not_found : ReadIdentity
not_found = record { found = false; id = record { bytes = replicate 16 0 } }

-- r is the answer to the text s
pub record Answers (s : List ℕ) (r : ReadIdentity) : Type 0 where
  pub accepted : r.found ≡ true → Says s r.id.bytes
  pub refused : r.found ≡ false → (r ≡ not_found) × ((bs : List ℕ) → Says s bs → ⊥)

-- Reading as a function, for definitions that go on with the answer. It is not to be believed: the law `answers` says that it gives the
-- answer, and `one_answer` that there is no other.

-- where the two digits of each byte start in the text
abbrev pub starts : List ℕ
starts = 0 ∷ 2 ∷ 4 ∷ 6 ∷ 9 ∷ 11 ∷ 14 ∷ 16 ∷ 19 ∷ 21 ∷ 24 ∷ 26 ∷ 28 ∷ 30 ∷ 32 ∷ 34 ∷ []

abbrev pub byte_at : List ℕ → ℕ → ℕ
byte_at l p = hex_value (get_or l p 0) * 16 + hex_value (get_or l (p + 1) 0)

-- the bytes that the digits of a small text say
unfoldable pub bytes_of : List ℕ → List ℕ
bytes_of l = map (byte_at l) starts

-- the bytes that the digits say, where their text is the one given
unfoldable pub read_identity : List ℕ → ReadIdentity
read_identity s = pick (same_bytes (lowered s) (identity_text (bytes_of (lowered s)))) (found (bytes_of (lowered s))) not_found

pub record IdentityRead (s : List ℕ) (r : ReadIdentity) : Type 0 where
  pub answers : Answers s r
  pub equals : r ≡ read_identity s
