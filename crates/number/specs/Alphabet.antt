-- The table's alphabet, and the strings that are used: 1 to 32 bytes of it.
-- Assumes nothing.
use Rattle.std.specs.Prelude.{Bool, true, not, List, [], ◌∷◌, ℕ, leb, eqb, length}
use Rattle.basis.specs.Pick.{both}

-- 0x20 to 0x7E without `"` and `\`
abbrev pub in_alphabet : ℕ → Bool
in_alphabet b = both (leb 0x20 b) (both (leb b 0x7E) (both (not (eqb b 34)) (not (eqb b 92))))

abbrev pub all_in_alphabet : List ℕ → Bool
all_in_alphabet [] = true
all_in_alphabet (b ∷ bs) = both (in_alphabet b) (all_in_alphabet bs)

abbrev pub is_label : List ℕ → Bool
is_label s = both (leb 1 (length s)) (both (leb (length s) 32) (all_in_alphabet s))
