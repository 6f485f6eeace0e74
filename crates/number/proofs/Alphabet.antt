-- The laws of the alphabet: one byte more, and a string that is or is not a label; decimal text is of the alphabet.
-- Assumes nothing.
use Rattle.basis.proofs.Std.{◌≡◌, refl, sym, ap, ◌∙◌, Bool, true, false, not, List, [], ◌∷◌, ◌++◌, ℕ, suc, ◌+◌, ◌/◌, ◌%◌, ◌≤◌, ◌<◌, arith, ℤ, pos, negsuc, length, le-leb, ne_eqb, both, both_true}
use Rattle.std.specs.List.{list_all}
use Rattle.std.specs.Prelude.{◌&&◌}
use Rattle.number.specs.Alphabet.{in_alphabet, all_in_alphabet, is_label}
use Rattle.number.specs.Decimal.{digits, decimal_of}
use Rattle.number.proofs.Digits.{by_digits, one_digit, more_digits}

pub all_is : (s : List ℕ) → list_all in_alphabet s ≡ all_in_alphabet s
all_is [] = refl
all_is (b ∷ s) = elim (in_alphabet b) as (λ t. (t && list_all in_alphabet s) ≡ both t (all_in_alphabet s)) [ true ↦ all_is s | false ↦ refl ]

-- the test `!b`
pub not_taken : (b : Bool) → not b ≡ true → b ≡ false
not_taken true e = sym e
not_taken false e = refl

pub label : (s : List ℕ) → 1 ≤ length s → length s ≤ 32 → all_in_alphabet s ≡ true → is_label s ≡ true
label s h k e = rw (le-leb 1 (length s) h, le-leb (length s) 32 k, e)

all_snoc : (s : List ℕ) (b : ℕ) → all_in_alphabet s ≡ true → in_alphabet b ≡ true → all_in_alphabet (s ++ (b ∷ [])) ≡ true
all_snoc [] b e h = rw h
all_snoc (x ∷ s) b e h = let k = both_true (in_alphabet x) (all_in_alphabet s) e in rw k.0 (all_snoc s b k.1 h)

digit_in : (d : ℕ) → d < 10 → in_alphabet (48 + d) ≡ true
digit_in d h = simp (le-leb 0x20 (48 + d) (omega arith), le-leb (48 + d) 0x7E (omega arith), ne_eqb (48 + d) 34 (λ e. omega arith), ne_eqb (48 + d) 92 (λ e. omega arith))

pub digits_in : (n : ℕ) → all_in_alphabet (digits n) ≡ true
digits_in = by_digits (λ (n : ℕ). all_in_alphabet (digits n) ≡ true)
    (λ n l. ap all_in_alphabet (one_digit n l) ∙ ap (λ (b : Bool). both b true) (digit_in n l))
    (λ n l e. ap all_in_alphabet (more_digits n l) ∙ all_snoc (digits (n / 10)) (48 + n % 10) e (digit_in (n % 10) (omega arith)))

pub decimal_in : (v : ℤ) → all_in_alphabet (decimal_of v) ≡ true
unfolding decimal_of
decimal_in (pos n) = digits_in n
decimal_in (negsuc n) = digits_in (suc n)
