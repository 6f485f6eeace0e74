-- A number by RFC 8259, section 6. A relation `X t r`: the text t begins with an X, and r is what follows it.
-- Assumes nothing.
use Rattle.std.specs.Prelude.{ℕ, ◌≤◌, ◌<◌, ◌≡◌, List, [], ◌∷◌}

-- DIGIT = %x30-39
pub record Digit (b : ℕ) : Type 0 where
  pub from : 0x30 ≤ b
  pub to : b < 0x3a

-- 1*DIGIT
pub data Digits : List ℕ → List ℕ → Type 0 where
  one : {b : ℕ} {r : List ℕ} → Digit b → Digits (b ∷ r) r
  more : {b : ℕ} {x r : List ℕ} → Digit b → Digits x r → Digits (b ∷ x) r

-- int = zero / ( digit1-9 *DIGIT )
pub data Integer : List ℕ → List ℕ → Type 0 where
  nought : {r : List ℕ} → Integer (0x30 ∷ r) r
  digit : {b : ℕ} {r : List ℕ} → Digit b → ¬ (b ≡ 0x30) → Integer (b ∷ r) r
  digits : {b : ℕ} {x r : List ℕ} → Digit b → ¬ (b ≡ 0x30) → Digits x r → Integer (b ∷ x) r

-- [ frac ], frac = decimal-point 1*DIGIT
pub data Fraction : List ℕ → List ℕ → Type 0 where
  whole : {r : List ℕ} → Fraction r r
  point : {x r : List ℕ} → Digits x r → Fraction (0x2e ∷ x) r

-- [ minus / plus ] 1*DIGIT
pub data Signed : List ℕ → List ℕ → Type 0 where
  unsigned : {x r : List ℕ} → Digits x r → Signed x r
  plus : {x r : List ℕ} → Digits x r → Signed (0x2b ∷ x) r
  minus : {x r : List ℕ} → Digits x r → Signed (0x2d ∷ x) r

-- [ exp ], exp = e [ minus / plus ] 1*DIGIT
pub data Exponent : List ℕ → List ℕ → Type 0 where
  plain : {r : List ℕ} → Exponent r r
  small : {x r : List ℕ} → Signed x r → Exponent (0x65 ∷ x) r
  large : {x r : List ℕ} → Signed x r → Exponent (0x45 ∷ x) r

-- number = [ minus ] int [ frac ] [ exp ]
pub data Number : List ℕ → List ℕ → Type 0 where
  positive : {x y z r : List ℕ} → Integer x y → Fraction y z → Exponent z r → Number x r
  negative : {x y z r : List ℕ} → Integer x y → Fraction y z → Exponent z r → Number (0x2d ∷ x) r

-- a byte with which no number goes on
pub record Apart (b : ℕ) : Type 0 where
  pub no_digit : ¬ (Digit b)
  pub no_point : ¬ (b ≡ 0x2e)
  pub no_small : ¬ (b ≡ 0x65)
  pub no_large : ¬ (b ≡ 0x45)

-- the longest match: after a number stands nothing with which one could go on. All that can follow a value
-- in a text, white space, a comma, a closing bracket or its end, is of this kind
abbrev pub Ended : List ℕ → Type 0
Ended [] = Unit {0}
Ended (b ∷ x) = Apart b
