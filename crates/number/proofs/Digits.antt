-- The shortest decimal text of a number: its digits one by one, what it says, its length, its first byte; one number a text.
-- Assumes nothing.
use Rattle.basis.proofs.Std.{◌≡◌, refl, sym, ap, ◌∙◌, List, [], ◌∷◌, ◌++◌, ⊎_elim, ℕ, zero, suc, ◌+◌, ◌-◌, ◌*◌, ◌/◌, ◌%◌, ◌^◌, ◌≤◌, ◌<◌, pow-suc, arith, ℤ, pos, negsuc, length, length-append, lt-ltb, le-ltb, lt_or_ge}
use Rattle.number.specs.Decimal.{digits_below, digits, decimal_of}
use Rattle.number.specs.Reading.{says}
use Rattle.number.specs.Signed.{Signed32, word_of}

short : (f n : ℕ) → n < 10 → digits_below (suc f) n ≡ (48 + n) ∷ []
unfolding digits_below
short f n h = rw (lt-ltb n 10 h)

long : (f n : ℕ) → 10 ≤ n → digits_below (suc f) n ≡ digits_below f (n / 10) ++ ((48 + n % 10) ∷ [])
unfolding digits_below
long f n h = rw (le-ltb n 10 h)

-- the bound does not matter
enough : (f g n : ℕ) → n < f → n < g → digits_below f n ≡ digits_below g n
enough zero g n h k = absurd (omega arith)
enough (suc f) zero n h k = absurd (omega arith)
enough (suc f) (suc g) n h k = ⊎_elim
    (λ (l : n < 10). short f n l ∙ sym (short g n l))
    (λ (l : 10 ≤ n). long f n l ∙ ap (λ (s : List ℕ). s ++ ((48 + n % 10) ∷ [])) (enough f g (n / 10) (omega arith) (omega arith)) ∙ sym (long g n l))
    (lt_or_ge n 10)

pub one_digit : (n : ℕ) → n < 10 → digits n ≡ (48 + n) ∷ []
unfolding digits
one_digit n h = short n n h

pub more_digits : (n : ℕ) → 10 ≤ n → digits n ≡ digits (n / 10) ++ ((48 + n % 10) ∷ [])
unfolding digits
more_digits n h = long n n h ∙ ap (λ (s : List ℕ). s ++ ((48 + n % 10) ∷ [])) (enough n (suc (n / 10)) (n / 10) (omega arith) (omega arith))

-- what holds of one digit, and of a number if it holds of all but its last digit, holds of every number
pub by_digits : (P : ℕ → Type 0) → ((n : ℕ) → n < 10 → P n) → ((n : ℕ) → 10 ≤ n → P (n / 10) → P n) → (n : ℕ) → P n
by_digits P one more n = go (suc n) n (omega arith)
  where
    go : (f n : ℕ) → n < f → P n
    go zero n h = absurd (omega arith)
    go (suc f) n h = ⊎_elim (λ (l : n < 10). one n l) (λ (l : 10 ≤ n). more n l (go f (n / 10) (omega arith))) (lt_or_ge n 10)

says_snoc : (a : ℕ) (bs : List ℕ) (b : ℕ) → says a (bs ++ (b ∷ [])) ≡ says a bs * 10 + (b - 48)
says_snoc a [] b = refl
says_snoc a (x ∷ bs) b = says_snoc (a * 10 + (x - 48)) bs b

pub says_digits : (n : ℕ) → says 0 (digits n) ≡ n
says_digits = by_digits (λ (n : ℕ). says 0 (digits n) ≡ n)
    (λ n l. ap (says 0) (one_digit n l) ∙ omega arith)
    (λ n l e. ap (says 0) (more_digits n l) ∙ says_snoc 0 (digits (n / 10)) (48 + n % 10) ∙ omega (arith, e))

-- a text is that of one number
pub digits_once : (m n : ℕ) → digits m ≡ digits n → m ≡ n
digits_once m n e = sym (says_digits m) ∙ ap (says 0) e ∙ says_digits n

-- a number below 10 ^ k has at most k digits
pub digits_length : (k n : ℕ) → n < 10 ^ suc k → length (digits n) ≤ suc k
digits_length zero n h = let l : n < 10 = omega (arith, h) in rw (one_digit n l) (omega arith)
digits_length (suc k) n h = ⊎_elim
    (λ (l : n < 10). rw (one_digit n l) (omega arith))
    (λ (l : 10 ≤ n).
    let i = digits_length k (n / 10) (omega (arith, pow-suc 10 (suc k))) in
    rw (more_digits n l, length-append) (omega (arith, i)))
    (lt_or_ge n 10)

-- the text begins with a digit, and with 0 only where the number is 0
pub record Begins (n : ℕ) (s : List ℕ) : Type 0 where
  pub first : ℕ
  pub behind : List ℕ
  pub whole : s ≡ first ∷ behind
  pub low : 48 ≤ first
  pub lead : 0 < n → 49 ≤ first

pub begins : (n : ℕ) → Begins n (digits n)
begins = by_digits (λ (n : ℕ). Begins n (digits n))
    (λ n l. record { first = 48 + n; behind = []; whole = one_digit n l; low = omega arith; lead = λ p. omega arith })
    (λ n l b. record {
      first = b.first;
      behind = b.behind ++ ((48 + n % 10) ∷ []);
      whole = more_digits n l ∙ ap (λ (s : List ℕ). s ++ ((48 + n % 10) ∷ [])) b.whole;
      low = b.low;
      lead = λ p. b.lead (omega arith);
    })

-- no text of digits begins with a minus
pub no_minus : (n : ℕ) (s : List ℕ) → 45 ∷ s ≡ digits n → ⊥
no_minus n s e = let b = begins n in let f : 45 ≡ b.first = cc (e, b.whole) in omega (arith, b.low)

pub not_empty : (n : ℕ) → [] ≡ digits n → ⊥
not_empty n e = let b = begins n in let z : ◌≡◌ {A = ℕ} 0 1 = cc (e, b.whole) in omega arith

-- a row of digits
pub data Row : List ℕ → Type 0 where
  none : Row []
  next : {b : ℕ} {bs : List ℕ} → 48 ≤ b → b ≤ 57 → Row bs → Row (b ∷ bs)

row_snoc : {bs : List ℕ} {b : ℕ} → Row bs → 48 ≤ b → b ≤ 57 → Row (bs ++ (b ∷ []))
row_snoc none h k = next h k none
row_snoc (next l u r) h k = next l u (row_snoc r h k)

pub digits_row : (n : ℕ) → Row (digits n)
digits_row = by_digits (λ (n : ℕ). Row (digits n))
    (λ n l. rw (one_digit n l) (next {b = 48 + n} (omega arith) (omega arith) none))
    (λ n l r. rw (more_digits n l) (row_snoc {b = 48 + n % 10} r (omega arith) (omega arith)))

-- one signed value a text
pub decimal_once : (v w : ℤ) → decimal_of v ≡ decimal_of w → v ≡ w
unfolding decimal_of
decimal_once (pos m) (pos n) e = ap pos (digits_once m n e)
decimal_once (pos m) (negsuc n) e = absurd (no_minus m (digits (suc n)) (sym e))
decimal_once (negsuc m) (pos n) e = absurd (no_minus n (digits (suc m)) e)
decimal_once (negsuc m) (negsuc n) e =
    let t : digits (suc m) ≡ digits (suc n) = cc in
    let q = digits_once (suc m) (suc n) t in
    ap negsuc (omega (arith, q))

-- by the bits: a number below 2 ^ 31 is its own text; else a minus, and the text of what 2 ^ 32 lacks
pub decimal_pos : (v : ℤ) → Signed32 v → word_of v < 2 ^ 31 → decimal_of v ≡ digits (word_of v)
unfolding decimal_of
decimal_pos (pos n) h l = refl
decimal_pos (negsuc n) h l = absurd (omega arith)

pub decimal_neg : (v : ℤ) → Signed32 v → 2 ^ 31 ≤ word_of v → decimal_of v ≡ 45 ∷ digits (2 ^ 32 - word_of v)
unfolding decimal_of
decimal_neg (pos n) h l = absurd (omega arith)
decimal_neg (negsuc n) h l = ap (λ (m : ℕ). 45 ∷ digits m) (omega arith)
