-- A signed 32-bit value in two's complement: its 32 bits and its four bytes, most significant first.
-- Assumes nothing.
use Rattle.std.specs.Prelude.{Bool, true, false, List, ℕ, suc, ◌-◌, ◌^◌, ◌<◌, ℤ, pos, negsuc, ltb, leb}
use Rattle.basis.specs.Pick.{pick}
use Rattle.bits.specs.Fields.{bytes_of, number_of}

-- -2147483648 to 2147483647; `negsuc n` is -(n + 1)
abbrev pub Signed32 : ℤ → Type 0
Signed32 (pos n) = n < 2 ^ 31
Signed32 (negsuc n) = n < 2 ^ 31

-- v from 0 on; v + 2 ^ 32 below 0
abbrev pub word_of : ℤ → ℕ
word_of (pos n) = n
word_of (negsuc n) = 2 ^ 32 - suc n

-- the value of 32 bits: w below 2 ^ 31, else w - 2 ^ 32
abbrev pub signed_of : ℕ → ℤ
signed_of w = pick (ltb w (2 ^ 31)) (pos w) (negsuc (2 ^ 32 - suc w))

-- -32768 to 32767, and its 16 bits
abbrev pub Signed16 : ℤ → Type 0
Signed16 (pos n) = n < 2 ^ 15
Signed16 (negsuc n) = n < 2 ^ 15

abbrev pub word16_of : ℤ → ℕ
word16_of (pos n) = n
word16_of (negsuc n) = 2 ^ 16 - suc n

abbrev pub signed16_of : ℕ → ℤ
signed16_of w = pick (ltb w (2 ^ 15)) (pos w) (negsuc (2 ^ 16 - suc w))

-- not above
abbrev pub at_most : ℤ → ℤ → Bool
at_most (pos a) (pos b) = leb a b
at_most (pos a) (negsuc b) = false
at_most (negsuc a) (pos b) = true
at_most (negsuc a) (negsuc b) = leb b a

abbrev pub four_of : ℤ → List ℕ
four_of v = bytes_of 4 (word_of v)

abbrev pub signed_in : List ℕ → ℤ
signed_in bs = signed_of (number_of bs)
