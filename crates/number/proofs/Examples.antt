-- A few values, computed.
-- Assumes nothing.
use Rattle.basis.proofs.Std.{◌≡◌, refl, [], ◌∷◌, negsuc, text}
use Rattle.number.specs.Signed.{four_of}
use Rattle.number.specs.Decimal.{digits_below, digits, decimal_of}

zero_text : digits 0 ≡ text "0"
unfolding digits_below digits
zero_text = refl

day_text : digits 86400 ≡ text "86400"
unfolding digits_below digits
day_text = refl

lowest_text : decimal_of (negsuc 2147483647) ≡ text "-2147483648"
unfolding digits_below digits decimal_of
lowest_text = refl

-- the four bytes of -2
minus_two : four_of (negsuc 1) ≡ 0xFF ∷ 0xFF ∷ 0xFF ∷ 0xFE ∷ []
minus_two = refl

lowest : four_of (negsuc 2147483647) ≡ 0x80 ∷ 0x00 ∷ 0x00 ∷ 0x00 ∷ []
lowest = refl
