-- `number_in` and `int_in` are the answers that reading a decimal text gives.
-- Assumes nothing.
use Rattle.basis.proofs.Std.{◌≡◌, refl, ap, Bool, true, false, List, [], ◌∷◌, ℕ, zero, suc, ◌-◌, ◌^◌, ◌≤◌, ◌<◌, arith, leb, eqb, pos, negsuc, get_or, leb-true, leb-false, eqb-true, eqb-false, pick, both, same_bytes, same_true, same_self, not_both}
use Rattle.number.specs.declared.Number.{Number}
use Rattle.number.specs.declared.Number.TheVariants.{Is, No}
use Rattle.number.specs.declared.Int.{Int}
use Rattle.number.specs.Decimal.{digits, decimal_of}
use Rattle.number.specs.Reading.{Reads, is, says, ReadsInt, is_int}
use Rattle.number.proofs.Reading.{reads_once, reads_int_once, too_much, unlike, was, was_none, no_minus_zero, no_digits, no_plain, no_text}
use Rattle.read_versions.specs.Numeral.{number_in, negated, plain, int_in}

differs : (s : List ℕ) → same_bytes s (digits (says 0 s)) ≡ false → s ≡ digits (says 0 s) → ⊥
differs s e f = not_both (same_self s) (rw (← f) at e)

pub numeral : (limit : ℕ) (s : List ℕ) → Reads limit s (number_in limit s)
unfolding number_in
numeral limit s = by (leb (says 0 s) limit) (same_bytes s (digits (says 0 s))) (leb-true (says 0 s) limit) (leb-false (says 0 s) limit) (same_true s (digits (says 0 s))) (differs s)
  where
    by : (a b : Bool) → (a ≡ true → says 0 s ≤ limit) → (a ≡ false → limit < says 0 s) → (b ≡ true → s ≡ digits (says 0 s)) → (b ≡ false → s ≡ digits (says 0 s) → ⊥) → Reads limit s (pick (both a b) (Is (says 0 s)) No)
    by true true f g h k = is (says 0 s) (f refl) (h refl)
    by true false f g h k = unlike (k refl)
    by false b f g h k = too_much (g refl)

pub numeral_once : (limit : ℕ) (s : List ℕ) (r : Number) → Reads limit s r → r ≡ number_in limit s
numeral_once limit s r h = reads_once h (numeral limit s)

pub number_most : (limit : ℕ) (s : List ℕ) (n : ℕ) → number_in limit s ≡ Is n → (n ≤ limit) × (s ≡ digits n)
number_most limit s n e = was (numeral limit s) e

-- a signed value: behind a minus, or plain

minus_reads : (s : List ℕ) (n : Number) → Reads (2 ^ 31) s n → ReadsInt (45 ∷ s) (negated n)
unfolding decimal_of
minus_reads s (Is zero) r = no_minus_zero (was r refl).1
minus_reads s (Is (suc n)) r = let h = was r refl in is_int (negsuc n) (omega (arith, h.0)) (ap (λ (l : List ℕ). 45 ∷ l) h.1)
minus_reads s No r = no_digits (was_none r refl)

plain_reads : (s : List ℕ) → (get_or s 0 0 ≡ 45 → ⊥) → (n : Number) → Reads (2 ^ 31 - 1) s n → ReadsInt s (plain n)
unfolding decimal_of
plain_reads s g (Is n) r = let h = was r refl in is_int (pos n) (omega (arith, h.0)) h.1
plain_reads s g No r = no_plain (λ n h e. was_none r refl n (omega arith) e) g

pub integer : (d : List ℕ) → ReadsInt d (int_in d)
unfolding int_in
integer [] = no_text [] refl
integer (b ∷ s) = by (eqb b 45) refl
  where
    by : (q : Bool) → eqb b 45 ≡ q → ReadsInt (b ∷ s) (pick q (negated (number_in (2 ^ 31) s)) (plain (number_in (2 ^ 31 - 1) (b ∷ s))))
    by true e = rw (eqb-true b 45 e) (minus_reads s (number_in (2 ^ 31) s) (numeral (2 ^ 31) s))
    by false e = plain_reads (b ∷ s) (eqb-false b 45 e) (number_in (2 ^ 31 - 1) (b ∷ s)) (numeral (2 ^ 31 - 1) (b ∷ s))

pub integer_once : (d : List ℕ) (r : Int) → ReadsInt d r → r ≡ int_in d
integer_once d r h = reads_int_once h (integer d)
