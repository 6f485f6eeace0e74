-- What the bit operators of 64 bits do, over the width.
-- Assumes nothing.
use mathlib.Core.Path.{◌≡◌, sym, ap, ◌∙◌}
use Prim.Native.Nat.{ℕ, ◌+◌, ◌-◌, ◌*◌, ◌/◌, ◌%◌, ◌^◌, ◌≤◌, ◌<◌}
use native.Mathlib.Nat.{one-mul, mul_assoc, mod-lt, mod-eq_of_lt, lt_of_lt_of_le, mul-mod_left, div-eq_of_lt}
use native.Mathlib.Omega.{arith}
use lib.Dec.{lit<}
use lib.Pow.{pow_pos, pow_mono, pow-add, shl_exact, shl-shr, mod-pow-add, high, low}
use lib.Bits.{bit_and, bit_or, and_mask, or_shifted}
use Rattle.bits.specs.Fields.{pushed}

-- `1 << k`
pub one_shl : (k : ℕ) → k < 64 → (1 * 2 ^ k) % 2 ^ 64 ≡ 2 ^ k
one_shl k h = shl_exact 1 k 64 (lit< tt) (omega arith) ∙ one-mul (2 ^ k)

-- `x & ((1 << k) - 1)`
pub mask : (x k : ℕ) → k < 64 → bit_and x ((1 * 2 ^ k) % 2 ^ 64 - 1) ≡ x % 2 ^ k
mask x k h = ap (λ (n : ℕ). bit_and x (n - 1)) (one_shl k h) ∙ and_mask x k

-- a number of 64 bits in a wider field
pub wider : (x k : ℕ) → x < 2 ^ 64 → 64 ≤ k → x % 2 ^ k ≡ x
wider x k h l = mod-eq_of_lt (lt_of_lt_of_le h (pow_mono l))

-- the 64 low bits of a number with k bits behind it, in two parts
parts : (n k v : ℕ) → k ≤ 64 → pushed n k v % 2 ^ 64 ≡ n % 2 ^ (64 - k) * 2 ^ k + v % 2 ^ k
parts n k v h =
    let e : 64 - k + k ≡ 64 = omega arith in
    ap (λ (j : ℕ). pushed n k v % 2 ^ j) (sym e)
    ∙ mod-pow-add (pushed n k v) (64 - k) k
    ∙ ap (λ (x : ℕ). x % 2 ^ (64 - k) * 2 ^ k + pushed n k v % 2 ^ k) (high n k (mod-lt v (pow_pos k)))
    ∙ ap (λ (x : ℕ). n % 2 ^ (64 - k) * 2 ^ k + x) (low n k (mod-lt v (pow_pos k)))

-- `n << k`
shl : (n k : ℕ) → k ≤ 64 → n * 2 ^ k % 2 ^ 64 ≡ n % 2 ^ (64 - k) * 2 ^ k
shl n k h =
    let e : 64 - k + k ≡ 64 = omega arith in
    ap (λ (j : ℕ). n * 2 ^ k % 2 ^ j) (sym e)
    ∙ mod-pow-add (n * 2 ^ k) (64 - k) k
    ∙ ap (λ (x : ℕ). x % 2 ^ (64 - k) * 2 ^ k + n * 2 ^ k % 2 ^ k) (shl-shr n k)
    ∙ ap (λ (x : ℕ). n % 2 ^ (64 - k) * 2 ^ k + x) (mul-mod_left n (2 ^ k))
    ∙ omega arith

-- `(n << k) | (the k low bits of v)`
pub push : (n k v : ℕ) → k < 64 → bit_or (n * 2 ^ k % 2 ^ 64) (v % 2 ^ k) ≡ pushed n k v % 2 ^ 64
push n k v h =
    let l : k ≤ 64 = omega arith in
    ap (λ (x : ℕ). bit_or x (v % 2 ^ k)) (shl n k l) ∙ or_shifted (n % 2 ^ (64 - k)) k (v % 2 ^ k) (mod-lt v (pow_pos k)) ∙ sym (parts n k v l)

-- a width of 64 or more: nothing of n is left in 64 bits
pub push_all : (n k v : ℕ) → 64 ≤ k → v < 2 ^ 64 → v % 2 ^ k ≡ pushed n k v % 2 ^ 64
push_all n k v h f =
    let e : k - 64 + 64 ≡ k = omega arith in
    wider v k f h
    ∙ sym (low (n * 2 ^ (k - 64)) 64 f)
    ∙ ap (λ (x : ℕ). (x + v) % 2 ^ 64) (mul_pow n (k - 64) 64 ∙ ap (λ (j : ℕ). n * 2 ^ j) e)
    ∙ ap (λ (x : ℕ). (n * 2 ^ k + x) % 2 ^ 64) (sym (wider v k f h))
  where
    mul_pow : (a i j : ℕ) → a * 2 ^ i * 2 ^ j ≡ a * 2 ^ (i + j)
    mul_pow a i j = mul_assoc a (2 ^ i) (2 ^ j) ∙ ap (λ (x : ℕ). a * x) (sym (pow-add 2 i j))

-- a shift by 64 or more
pub shr_all : (x k : ℕ) → x < 2 ^ 64 → 64 ≤ k → x / 2 ^ k ≡ 0
shr_all x k h l = div-eq_of_lt (lt_of_lt_of_le h (pow_mono l))
