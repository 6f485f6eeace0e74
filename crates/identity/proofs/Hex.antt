-- Laws of the hexadecimal digits, each one computed test over the sixteen.
-- Assumes nothing.
use Rattle.basis.proofs.Std.{◌≡◌, Bool, List, ℕ, ◌*◌, ◌+◌, ◌/◌, ◌%◌, ◌≤◌, ◌<◌, arith, ltb, eqb, eqb→eq, lit≤, replicate, ltb-true, picked}
use Rattle.basis.proofs.Table.{at}
use Rattle.identity.specs.Hex.{hex_digit, hex_value, lower_hex}

abbrev sixteen : List ℕ
sixteen = replicate 16 0

valued : ℕ → ℕ → Bool
unfolding hex_value hex_digit
valued n x = eqb (hex_value (hex_digit n)) n

pub value_digit : (n : ℕ) → n < 16 → hex_value (hex_digit n) ≡ n
unfolding valued hex_value hex_digit
value_digit n h = eqb→eq (hex_value (hex_digit n)) n (at valued sixteen tt n h)

small : ℕ → ℕ → Bool
unfolding lower_hex hex_digit
small n x = eqb (lower_hex (hex_digit n)) (hex_digit n)

pub lower_digit : (n : ℕ) → n < 16 → lower_hex (hex_digit n) ≡ hex_digit n
unfolding small lower_hex hex_digit
lower_digit n h = eqb→eq (lower_hex (hex_digit n)) (hex_digit n) (at small sixteen tt n h)

pub value_below : (c : ℕ) → hex_value c ≤ 15
unfolding hex_value
value_below c =
    let P : ℕ → Type 0 = λ (n : ℕ). n ≤ 15 in
    picked P (ltb c 48) _ _ (λ e. lit≤ tt) (λ e.
    picked P (ltb c 58) _ _ (λ f. omega (arith, ltb-true c 58 f)) (λ f.
    picked P (ltb c 97) _ _ (λ g. lit≤ tt) (λ g.
    picked P (ltb c 103) _ _ (λ h. omega (arith, ltb-true c 103 h)) (λ h. lit≤ tt))))

-- the two digits of a byte say the byte
pub byte_digits : (b : ℕ) → b < 256 → hex_value (hex_digit (b / 16)) * 16 + hex_value (hex_digit (b % 16)) ≡ b
byte_digits b h = rw (value_digit (b / 16) (omega arith), value_digit (b % 16) (omega arith)) (omega arith)
