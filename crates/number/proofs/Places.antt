-- Digits put into an array from its end forwards.
-- Assumes nothing.
use Rattle.basis.proofs.Std.{◌≡◌, sym, ap, ap₂, subst, ◌∙◌, List, ◌∷◌, ◌++◌, ℕ, zero, suc, ◌+◌, ◌-◌, ◌/◌, ◌%◌, ◌^◌, ◌≤◌, ◌<◌, pow-suc, add-one, arith, length, take, drop, set, length-set, length-drop, take_all, drop-cons, drop-set-lt, get_or-set_same, append_snoc}
use Rattle.number.specs.Decimal.{digits}
use Rattle.number.proofs.Digits.{one_digit, more_digits}

-- a byte put before what stands there
pub set_here : (bs : List ℕ) (i b : ℕ) → i < length bs → drop i (set bs i b) ≡ b ∷ drop (i + 1) bs
set_here bs i b h =
    drop-cons (set bs i b) i 0 (rw length-set h)
    ∙ ap₂ (λ (x : ℕ) (l : List ℕ). x ∷ l) (get_or-set_same bs i b 0 h) (drop-set-lt (suc i) bs i b (omega arith))
    ∙ ap (λ (n : ℕ). b ∷ drop n bs) (sym (add-one i))

-- a number of more than one digit needs two places
pub room : (i n : ℕ) → 10 ≤ n → n < 10 ^ i → (2 ≤ i) × (n / 10 < 10 ^ (i - 1))
room zero n h l = absurd (omega (arith, l))
room (suc zero) n h l = absurd (omega (arith, l))
room (suc (suc i)) n h l =
    let e : suc i ≡ suc (suc i) - 1 = omega arith in
    (omega arith, subst (λ (k : ℕ). n / 10 < 10 ^ k) e (omega (arith, pow-suc 10 (suc i))))

module _ (bs : List ℕ) (n left i : ℕ) (h : i < length bs) (e : digits n ≡ digits left ++ drop (i + 1) bs) where
  pub turn : 10 ≤ left → 0 < i → digits n ≡ digits (left / 10) ++ drop (i - 1 + 1) (set bs i (48 + left % 10))
  turn l p =
      let k : i ≡ i - 1 + 1 = omega arith in
      e
      ∙ ap (λ (s : List ℕ). s ++ drop (i + 1) bs) (more_digits left l)
      ∙ append_snoc (digits (left / 10)) (48 + left % 10) (drop (i + 1) bs)
      ∙ ap (λ (s : List ℕ). digits (left / 10) ++ s) (sym (set_here bs i (48 + left % 10) h))
      ∙ ap (λ (k : ℕ). digits (left / 10) ++ drop k (set bs i (48 + left % 10))) k

  pub ends : left < 10 → drop i (set bs i (48 + left % 10)) ≡ digits n
  ends l =
      let k : 48 + left % 10 ≡ 48 + left = omega arith in
      set_here bs i (48 + left % 10) h
      ∙ ap (λ (b : ℕ). b ∷ drop (i + 1) bs) k
      ∙ ap (λ (s : List ℕ). s ++ drop (i + 1) bs) (sym (one_digit left l))
      ∙ sym e

-- a byte put before a text
pub before : (bs : List ℕ) (i b : ℕ) → 0 < i → i ≤ length bs → drop (i - 1) (set bs (i - 1) b) ≡ b ∷ drop i bs
before bs i b p h =
    let e : i - 1 + 1 ≡ i = omega arith in
    set_here bs (i - 1) b (omega arith) ∙ ap (λ (k : ℕ). b ∷ drop k bs) e

-- the part of an array of n bytes from i on
pub from_on : (bs : List ℕ) (n i : ℕ) → length bs ≡ n → take (n - i) (drop i bs) ≡ drop i bs
from_on bs n i e = take_all (n - i) (drop i bs) (omega (arith, length-drop i bs))
