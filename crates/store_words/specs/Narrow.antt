-- Numbers narrower than a word, the first in the highest bits, and an identity in two words.
-- Assumes nothing.
use Rattle.std.specs.Prelude.{ℕ, [], ◌∷◌, ◌++◌}
use Rattle.bits.specs.Fields.{field_of, joined, bytes_of}
use Rattle.identity.specs.declared.Identity.{Identity}

abbrev pub upper : ℕ → ℕ
upper x = field_of x 32 32

abbrev pub lower : ℕ → ℕ
lower x = field_of x 0 32

abbrev pub pair : ℕ → ℕ → ℕ
pair a b = joined 0 (32 ∷ 32 ∷ []) (a ∷ b ∷ [])

abbrev pub quad : ℕ → ℕ → ℕ → ℕ → ℕ
quad a b c d = joined 0 (16 ∷ 16 ∷ 16 ∷ 16 ∷ []) (a ∷ b ∷ c ∷ d ∷ [])

unfoldable pub identity_from : ℕ → ℕ → Identity
identity_from a b = record { bytes = bytes_of 8 a ++ bytes_of 8 b }
