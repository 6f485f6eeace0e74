-- What follows a string's characters, or a number, is shorter than the text. What a number begins with.
-- Assumes nothing.
use Rattle.basis.proofs.Std.{ℕ, ◌<◌, ◌≤◌, ◌≡◌, refl, List, ◌∷◌, ◌⊎◌, inl, inr, length, arith}
use Rattle.json_number.specs.Number.{Digits, Integer, Fraction, Signed, Exponent, Number}
use Rattle.json_character.specs.Utf8.{Utf8}
use Rattle.json_character.specs.Grammar.{Hex4, Character}
use Rattle.json_text.specs.Grammar.{Chars}

utf8 : {t r : List ℕ} {c : ℕ} → Utf8 t r c → length r < length t
utf8 (Utf8.utf8_1 a) = omega arith
utf8 (Utf8.utf8_2 a b) = omega arith
utf8 (Utf8.utf8_3_E0 a b c) = omega arith
utf8 (Utf8.utf8_3_E1 a b c) = omega arith
utf8 (Utf8.utf8_3_ED a b c) = omega arith
utf8 (Utf8.utf8_3_EE a b c) = omega arith
utf8 (Utf8.utf8_4_F0 a b c d) = omega arith
utf8 (Utf8.utf8_4_F1 a b c d) = omega arith
utf8 (Utf8.utf8_4_F4 a b c d) = omega arith

hex4 : {t r : List ℕ} {h : ℕ} → Hex4 t r h → length r < length t
hex4 (Hex4.hex4 a b c d) = omega arith

character : {t r : List ℕ} {c : ℕ} → Character t r c → length r < length t
character (Character.unescaped u n) = utf8 u
character (Character.escaped e) = omega arith
character (Character.numbered h a) = omega (arith, hex4 h)
character (Character.paired h a l b) = omega (arith, hex4 h, hex4 l)

pub chars : {t r d : List ℕ} → Chars t r d → length r < length t
chars Chars.close = omega arith
chars (Chars.more c m) = omega (arith, character c, chars m)

-- numbers

digits : {t r : List ℕ} → Digits t r → length r < length t
digits (Digits.one d) = omega arith
digits (Digits.more d m) = omega (arith, digits m)

integer : {t r : List ℕ} → Integer t r → length r < length t
integer Integer.nought = omega arith
integer (Integer.digit d n) = omega arith
integer (Integer.digits d n m) = omega (arith, digits m)

fraction : {t r : List ℕ} → Fraction t r → length r ≤ length t
fraction Fraction.whole = omega arith
fraction (Fraction.point m) = omega (arith, digits m)

signed : {t r : List ℕ} → Signed t r → length r < length t
signed (Signed.unsigned m) = digits m
signed (Signed.plus m) = omega (arith, digits m)
signed (Signed.minus m) = omega (arith, digits m)

exponent : {t r : List ℕ} → Exponent t r → length r ≤ length t
exponent Exponent.plain = omega arith
exponent (Exponent.small m) = omega (arith, signed m)
exponent (Exponent.large m) = omega (arith, signed m)

pub number : {t r : List ℕ} → Number t r → length r < length t
number (Number.positive i f e) = omega (arith, integer i, fraction f, exponent e)
number (Number.negative i f e) = omega (arith, integer i, fraction f, exponent e)

-- a number begins with a minus or a digit
pub record Begun (t : List ℕ) : Type 0 where
  pub first : ℕ
  pub rest : List ℕ
  pub is : t ≡ first ∷ rest
  pub low : 0x2d ≤ first
  pub high : first < 0x3a
  pub sort : (first ≡ 0x2d) ⊎ (0x30 ≤ first)

integer_begun : {t r : List ℕ} → Integer t r → Begun t
integer_begun (Integer.nought {r = r}) = record { first = 0x30; rest = r; is = refl; low = omega arith; high = omega arith; sort = inr (omega arith) }
integer_begun (Integer.digit {b = b} {r = r} d n) = record { first = b; rest = r; is = refl; low = omega (arith, d.from); high = d.to; sort = inr d.from }
integer_begun (Integer.digits {b = b} {x = x} d n m) = record { first = b; rest = x; is = refl; low = omega (arith, d.from); high = d.to; sort = inr d.from }

pub begun : {t r : List ℕ} → Number t r → Begun t
begun (Number.positive i f e) = integer_begun i
begun (Number.negative {x = x} i f e) = record { first = 0x2d; rest = x; is = refl; low = omega arith; high = omega arith; sort = inl refl }
