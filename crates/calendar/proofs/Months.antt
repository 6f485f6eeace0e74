-- The days of the months, and the month of a day of a year.
-- Assumes nothing.
use Rattle.basis.proofs.Std.{◌≡◌, refl, ap, subst, ◌∙◌, Bool, List, [], ◌∷◌, ℕ, zero, suc, ◌+◌, ◌-◌, ◌*◌, ◌/◌, ◌≤◌, ◌<◌, zero-le, le_refl, le_trans, le-add_right, add-zero, add-suc, arith, T, eqb, eqb→eq, lit≤, replicate, get_or, both}
use Rattle.basis.proofs.Table.{at, both_left, both_right}
use Rattle.calendar.specs.Days.{leap_of, month_days, months, InMonth}
use Rattle.calendar.proofs.LeapYears.{leap_le}

pub month_step : (l m : ℕ) → 1 ≤ m → months l (m + 1 - 1) ≡ months l (m - 1) + month_days l m
unfolding months
month_step l m h =
    let e : m + 1 - 1 ≡ suc (m - 1) = omega arith in
    let f : suc (m - 1) ≡ m = omega arith in
    ap (months l) e ∙ ap (λ (k : ℕ). months l (m - 1) + month_days l k) f

months_more : (l k n : ℕ) → months l k ≤ months l (k + n)
unfolding months
months_more l k zero = rw add-zero (le_refl (months l k))
months_more l k (suc n) = rw add-suc (le_trans (months_more l k n) (le-add_right (months l (k + n)) (month_days l (suc (k + n)))))

pub months_le : (l a b : ℕ) → a ≤ b → months l a ≤ months l b
months_le l a b h = let e : a + (b - a) ≡ b = omega arith in subst (λ (k : ℕ). months l a ≤ months l k) e (months_more l a (b - a))

pub twelve : (l : ℕ) → months l 12 ≡ 365 + l
unfolding months
twelve l = omega arith

abbrev AllBelow : List ℕ → Type 0
AllBelow [] = Unit {0}
AllBelow (x ∷ xs) = (x ≤ 31) × AllBelow xs

all_below : (xs : List ℕ) → AllBelow xs → (m : ℕ) → get_or xs m 0 ≤ 31
all_below [] a m = zero-le
all_below (x ∷ xs) a zero = a.0
all_below (x ∷ xs) a (suc m) = all_below xs a.1 m

-- the days before month m of a year whose February has 30 days
abbrev pub start : ℕ → ℕ
start m = (367 * m - 362) / 12

-- from March on the months begin so, moved by February's days, and are as long: month k + 3, one computed test for each kind of year
from_march : ℕ → ℕ → ℕ → Bool
unfolding months
from_march l k x = both (eqb (months l (k + 2) + 2) (start (k + 3) + l)) (eqb (month_days l (k + 3) + start (k + 3)) (start (k + 4)))

march_test : (l : ℕ) → l ≤ 1 → (k : ℕ) → k < 10 → T (both (eqb (months l (k + 2) + 2) (start (k + 3) + l)) (eqb (month_days l (k + 3) + start (k + 3)) (start (k + 4))))
unfolding from_march months
march_test zero h k b = at (from_march 0) (replicate 10 0) tt k b
march_test (suc zero) h k b = at (from_march 1) (replicate 10 0) tt k b
march_test (suc (suc l)) h k b = absurd (omega arith)

pub march_start : (l m : ℕ) → l ≤ 1 → 3 ≤ m → m ≤ 12 → months l (m - 1) + 2 ≡ start m + l
march_start l m hl a b =
    let t = march_test l hl (m - 3) (omega arith) in
    let e : m - 3 + 2 ≡ m - 1 = omega arith in
    let f : m - 3 + 3 ≡ m = omega arith in
    rw (e, f) at (eqb→eq (months l (m - 3 + 2) + 2) (start (m - 3 + 3) + l) (both_left (eqb (months l (m - 3 + 2) + 2) (start (m - 3 + 3) + l)) _ t))

pub march_days : (l m : ℕ) → l ≤ 1 → 3 ≤ m → m ≤ 12 → month_days l m + start m ≡ start (m + 1)
march_days l m hl a b =
    let t = march_test l hl (m - 3) (omega arith) in
    let e : m - 3 + 4 ≡ m + 1 = omega arith in
    let f : m - 3 + 3 ≡ m = omega arith in
    rw (e, f) at (eqb→eq (month_days l (m - 3 + 3) + start (m - 3 + 3)) (start (m - 3 + 4)) (both_right (eqb (months l (m - 3 + 2) + 2) (start (m - 3 + 3) + l)) _ t))

pub first : (l m : ℕ) → 1 ≤ m → m < 3 → start m ≡ months l (m - 1)
unfolding months
first l zero a b = absurd (omega arith)
first l (suc zero) a b = refl
first l (suc (suc zero)) a b = refl
first l (suc (suc (suc m))) a b = absurd (omega arith)

-- the month that a day falls in, by the formula
month_number : (x m : ℕ) → m ≡ (12 * x + 373) / 367 → (1 ≤ m) × (start m ≤ x) × (x < start (m + 1))
month_number x m h = (omega arith, omega arith, omega arith)

pub from_january : (l n m : ℕ) → l ≤ 1 → n < 59 + l → m ≡ (12 * n + 373) / 367 → InMonth l n (record { number = m; passed = n - start m })
unfolding months
from_january l n m hl hn h = by m (month_number n m h)
  where
    by : (m : ℕ) → (1 ≤ m) × (start m ≤ n) × (n < start (m + 1)) → InMonth l n (record { number = m; passed = n - start m })
    by zero p = absurd (omega arith)
    by (suc zero) p = record { from = p.0; to = lit≤ tt; count = omega (arith, p.1, p.2); within = omega (arith, p.1, p.2) }
    by (suc (suc zero)) p = record { from = p.0; to = lit≤ tt; count = omega (arith, p.1, p.2); within = omega (arith, p.1, p.2) }
    by (suc (suc (suc m))) p = absurd (omega arith)

pub after_february : (l n x m : ℕ) → l ≤ 1 → 59 + l ≤ n → n < 365 + l → x ≡ n + 2 - l → m ≡ (12 * x + 373) / 367 → InMonth l n (record { number = m; passed = x - start m })
after_february l n x m hl a b hx h =
    let p = month_number x m h in
    let lo : 3 ≤ m = omega arith in
    let hi : m ≤ 12 = omega arith in
    let s = march_start l m hl lo hi in
    let d = march_days l m hl lo hi in
    record { from = p.0; to = hi; count = counted (months l (m - 1)) (start m) s p.1; within = inside (month_days l m) (start m) (start (m + 1)) d p.1 p.2 }
  where
    counted : (k z : ℕ) → k + 2 ≡ z + l → z ≤ x → k + (x - z) ≡ n
    counted k z e f = omega arith

    inside : (d z w : ℕ) → d + z ≡ w → z ≤ x → x < w → x - z < d
    inside d z w e f g = omega arith

-- a month has at most 31 days
pub month_below : (y m : ℕ) → month_days (leap_of y) m ≤ 31
month_below y m = all_below (0 ∷ 31 ∷ (28 + leap_of y) ∷ 31 ∷ 30 ∷ 31 ∷ 30 ∷ 31 ∷ 31 ∷ 30 ∷ 31 ∷ 30 ∷ 31 ∷ []) (lit≤ tt, (lit≤ tt, (omega (arith, leap_le y), (lit≤ tt, (lit≤ tt, (lit≤ tt, (lit≤ tt, (lit≤ tt, (lit≤ tt, (lit≤ tt, (lit≤ tt, (lit≤ tt, (lit≤ tt, tt))))))))))))) m
