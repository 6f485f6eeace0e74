-- UTF-8 the other way: the bytes of a code point, as RFC 3629, section 3, lays out their bits.
-- Assumes nothing.
use Rattle.std.specs.Prelude.{ℕ, ◌+◌, ◌/◌, ◌%◌, List, [], ◌∷◌, ltb}
use Rattle.basis.specs.Pick.{pick}
use Rattle.json_character.specs.Utf8.{In}

-- a code point that is no surrogate
pub data Scalar (c : ℕ) : Type 0 where
  below_surrogates : In 0 0xd7ff c → Scalar c
  above_surrogates : In 0xe000 0x10ffff c → Scalar c

unfoldable pub utf8 : ℕ → List ℕ
utf8 c =
    pick (ltb c 0x80) (c ∷ [])
    (pick (ltb c 0x800) ((0xc0 + c / 0x40) ∷ (0x80 + c % 0x40) ∷ [])
    (pick (ltb c 0x10000) ((0xe0 + c / 0x1000) ∷ (0x80 + c / 0x40 % 0x40) ∷ (0x80 + c % 0x40) ∷ [])
    ((0xf0 + c / 0x40000) ∷ (0x80 + c / 0x1000 % 0x40) ∷ (0x80 + c / 0x40 % 0x40) ∷ (0x80 + c % 0x40) ∷ [])))
