-- What reading a decimal text answers: the number whose shortest decimal text it is, and else nothing.
-- Assumes nothing.
use Rattle.std.specs.Prelude.{◌≡◌, List, [], ◌∷◌, ℕ, ◌+◌, ◌-◌, ◌*◌, ◌≤◌, ℤ}
use Rattle.number.specs.declared.Number.{Number}
use Rattle.number.specs.declared.Number.TheVariants.{Is, No}
use Rattle.number.specs.declared.Int.{Int}
use Rattle.number.specs.declared.Int.TheVariants.{Is as IsInt, No as NoInt}
use Rattle.number.specs.Decimal.{digits, decimal_of}
use Rattle.number.specs.Signed.{Signed32}

-- a number from 0 to the limit
pub data Reads (limit : ℕ) (s : List ℕ) : Number → Type 0 where
  is : (n : ℕ) → n ≤ limit → s ≡ digits n → Reads limit s (Is n)
  no : ((n : ℕ) → n ≤ limit → s ≡ digits n → ⊥) → Reads limit s No

-- a signed 32-bit value
pub data ReadsInt (s : List ℕ) : Int → Type 0 where
  is_int : (v : ℤ) → Signed32 v → s ≡ decimal_of v → ReadsInt s (IsInt v)
  no_int : ((v : ℤ) → Signed32 v → s ≡ decimal_of v → ⊥) → ReadsInt s NoInt

-- what a row of digits says, behind digits that say n
abbrev pub says : ℕ → List ℕ → ℕ
says n [] = n
says n (b ∷ bs) = says (n * 10 + (b - 48)) bs
