-- The number whose shortest decimal text is given: what the digits say is written again and compared. A signed one has a minus before its digits.
-- Assumes nothing.
use Rattle.std.specs.Prelude.{List, [], ◌∷◌, ℕ, zero, suc, ◌-◌, ◌^◌, leb, eqb, pos, negsuc}
use Rattle.basis.specs.Pick.{pick, both}
use Rattle.basis.specs.Lists.{same_bytes}
use Rattle.number.specs.declared.Number.{Number}
use Rattle.number.specs.declared.Number.TheVariants.{Is, No}
use Rattle.number.specs.declared.Int.{Int}
use Rattle.number.specs.declared.Int.TheVariants.{Is as IsInt, No as NoInt}
use Rattle.number.specs.Decimal.{digits}
use Rattle.number.specs.Reading.{says}

-- the only answer that `Reads limit s` allows
unfoldable pub number_in : ℕ → List ℕ → Number
number_in limit s = pick (both (leb (says 0 s) limit) (same_bytes s (digits (says 0 s)))) (Is (says 0 s)) No

-- behind a minus stands 1 to 2 ^ 31; `negsuc n` is -(n + 1)
abbrev pub negated : Number → Int
negated (Is zero) = NoInt
negated (Is (suc n)) = IsInt (negsuc n)
negated No = NoInt

abbrev pub plain : Number → Int
plain (Is n) = IsInt (pos n)
plain No = NoInt

-- the signed 32-bit value, and the only answer that `ReadsInt s` allows
unfoldable pub int_in : List ℕ → Int
int_in [] = NoInt
int_in (b ∷ s) = pick (eqb b 45) (negated (number_in (2 ^ 31) s)) (plain (number_in (2 ^ 31 - 1) (b ∷ s)))
