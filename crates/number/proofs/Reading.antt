-- Reading decimal text: one answer a text, and how each answer is shown.
-- Assumes nothing.
use Rattle.basis.proofs.Std.{◌≡◌, refl, sym, ap, subst, ◌∙◌, List, [], ◌∷◌, ℕ, suc, ◌+◌, ◌-◌, ◌*◌, ◌^◌, ◌≤◌, ◌<◌, arith, add-one, ℤ, pos, negsuc, length, drop, get_or, drop-cons, le-ltb, lt-ltb}
use Rattle.number.specs.declared.Number.{Number}
use Rattle.number.specs.declared.Number.TheVariants.{Is, No}
use Rattle.number.specs.declared.Int.{Int}
use Rattle.number.specs.declared.Int.TheVariants.{Is as IsInt, No as NoInt}
use Rattle.number.specs.Signed.{Signed32, signed_of}
use Rattle.number.specs.Decimal.{digits, decimal_of}
use Rattle.number.specs.Reading.{Reads, is, no, ReadsInt, is_int, no_int, says}
use Rattle.number.proofs.Digits.{says_digits, digits_once, digits_length, no_minus, not_empty, decimal_once}

-- two answers to one text are equal
pub reads_once : {limit : ℕ} {s : List ℕ} {a b : Number} → Reads limit s a → Reads limit s b → a ≡ b
reads_once (is m h e) (is n k f) = ap Is (digits_once m n (sym e ∙ f))
reads_once (is m h e) (no f) = absurd (f m h e)
reads_once (no f) (is n k e) = absurd (f n k e)
reads_once (no f) (no g) = refl

pub reads_int_once : {s : List ℕ} {a b : Int} → ReadsInt s a → ReadsInt s b → a ≡ b
reads_int_once (is_int v h e) (is_int w k f) = ap IsInt (decimal_once v w (sym e ∙ f))
reads_int_once (is_int v h e) (no_int f) = absurd (f v h e)
reads_int_once (no_int f) (is_int w k e) = absurd (f w k e)
reads_int_once (no_int f) (no_int g) = refl

-- what is written is read
pub reads_written : (limit n : ℕ) → n ≤ limit → Reads limit (digits n) (Is n)
reads_written limit n h = is n h refl

is_inv : {limit : ℕ} {s : List ℕ} {n : ℕ} → Reads limit s (Is n) → (n ≤ limit) × (s ≡ digits n)
is_inv (is n h e) = (h, e)

no_inv : {limit : ℕ} {s : List ℕ} → Reads limit s No → (n : ℕ) → n ≤ limit → s ≡ digits n → ⊥
no_inv (no f) = f

-- what an answer that is known says of the text
pub was : {limit : ℕ} {s : List ℕ} {a : Number} {n : ℕ} → Reads limit s a → a ≡ Is n → (n ≤ limit) × (s ≡ digits n)
was {limit} {s} r e = is_inv (subst (λ (x : Number). Reads limit s x) e r)

pub was_none : {limit : ℕ} {s : List ℕ} {a : Number} → Reads limit s a → a ≡ No → (n : ℕ) → n ≤ limit → s ≡ digits n → ⊥
was_none {limit} {s} r e = no_inv (subst (λ (x : Number). Reads limit s x) e r)

-- one digit more
pub turn : (s : List ℕ) (i n : ℕ) → i < length s → says n (drop i s) ≡ says (n * 10 + (get_or s i 0 - 48)) (drop (i + 1) s)
turn s i n h = ap (says n) (drop-cons s i 0 h) ∙ ap (λ (k : ℕ). says (n * 10 + (get_or s i 0 - 48)) (drop k s)) (sym (add-one i))

module _ {limit : ℕ} {s : List ℕ} where
  -- a text that says another number than it should is none
  pub other : ((n : ℕ) → n ≤ limit → says 0 s ≡ n → s ≡ digits n → ⊥) → Reads limit s No
  other f = no (λ n h e. f n h (ap (says 0) e ∙ says_digits n) e)

  pub too_long : limit < 2 ^ 32 → 10 < length s → Reads limit s No
  too_long h l = no (λ n k e. omega (arith, ap length e, digits_length 9 n (omega arith)))

  pub too_much : limit < says 0 s → Reads limit s No
  too_much h = other (λ n k e f. omega arith)

  pub unlike : (s ≡ digits (says 0 s) → ⊥) → Reads limit s No
  unlike f = other (λ n k e g. f (g ∙ ap digits (sym e)))

-- behind a minus
signed_neg : (n : ℕ) → 0 < n → n ≤ 2 ^ 31 → signed_of (2 ^ 32 - n) ≡ negsuc (n - 1)
signed_neg n p h = rw (le-ltb (2 ^ 32 - n) (2 ^ 31) (omega arith)) (ap negsuc (omega arith))

minus_none : (s : List ℕ) → ((n : ℕ) → n < 2 ^ 31 → s ≡ digits (suc n) → ⊥) → (v : ℤ) → Signed32 v → 45 ∷ s ≡ decimal_of v → ⊥
unfolding decimal_of
minus_none s f (pos m) h e = no_minus m s e
minus_none s f (negsuc m) h e = f m h (cc)

module _ {s : List ℕ} where
  pub below_zero : (n : ℕ) → 0 < n → n ≤ 2 ^ 31 → s ≡ digits n → ReadsInt (45 ∷ s) (IsInt (signed_of (2 ^ 32 - n)))
  unfolding decimal_of
  below_zero n p h e =
      let k : n ≡ suc (n - 1) = omega arith in
      subst (λ (v : ℤ). ReadsInt (45 ∷ s) (IsInt v)) (sym (signed_neg n p h))
      (is_int (negsuc (n - 1)) (omega arith) (ap (λ (l : List ℕ). 45 ∷ l) (e ∙ ap digits k)))

  pub no_minus_zero : s ≡ digits 0 → ReadsInt (45 ∷ s) NoInt
  no_minus_zero e = no_int (minus_none s (λ n h q. let z = digits_once 0 (suc n) (sym e ∙ q) in omega (arith, z)))

  pub no_digits : ((n : ℕ) → n ≤ 2 ^ 31 → s ≡ digits n → ⊥) → ReadsInt (45 ∷ s) NoInt
  no_digits f = no_int (minus_none s (λ n h q. f (suc n) (omega arith) q))

-- without a minus
plain_none : (s : List ℕ) → ((n : ℕ) → n < 2 ^ 31 → s ≡ digits n → ⊥) → (get_or s 0 0 ≡ 45 → ⊥) → (v : ℤ) → Signed32 v → s ≡ decimal_of v → ⊥
unfolding decimal_of
plain_none s f g (pos m) h e = f m h e
plain_none s f g (negsuc m) h e = g (ap (λ (l : List ℕ). get_or l 0 0) e)

pub from_zero : {s : List ℕ} (n : ℕ) → n < 2 ^ 31 → s ≡ digits n → ReadsInt s (IsInt (signed_of n))
unfolding decimal_of
from_zero {s} n h e = rw (lt-ltb n (2 ^ 31) h) (is_int (pos n) h e)

pub no_plain : {s : List ℕ} → ((n : ℕ) → n < 2 ^ 31 → s ≡ digits n → ⊥) → (get_or s 0 0 ≡ 45 → ⊥) → ReadsInt s NoInt
no_plain {s} f g = no_int (plain_none s f g)

pub no_text : (s : List ℕ) → length s ≡ 0 → ReadsInt s NoInt
no_text [] h = no_plain (λ n k e. not_empty n e) (λ e. omega arith)
no_text (b ∷ s) h = absurd (omega arith)
