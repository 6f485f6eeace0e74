-- The shortest decimal text of a number.
-- Assumes nothing.
use Rattle.std.specs.Prelude.{Bool, true, false, List, [], ◌∷◌, ◌++◌, ℕ, zero, suc, ◌+◌, ◌/◌, ◌%◌, ltb, ℤ, pos, negsuc}

-- one digit where n is below 10; else the digits of n / 10, and the last
abbrev pub digits_by : Bool → (ℕ → List ℕ) → ℕ → List ℕ
digits_by true more n = (48 + n) ∷ []
digits_by false more n = more (n / 10) ++ ((48 + n % 10) ∷ [])

-- the digits of a number below f
unfoldable pub digits_below : ℕ → ℕ → List ℕ
digits_below zero n = []
digits_below (suc f) n = digits_by (ltb n 10) (digits_below f) n

unfoldable pub digits : ℕ → List ℕ
digits n = digits_below (suc n) n

-- a minus before the digits where the number is below 0; `negsuc n` is -(n + 1)
unfoldable pub decimal_of : ℤ → List ℕ
decimal_of (pos n) = digits n
decimal_of (negsuc n) = 45 ∷ digits (suc n)
