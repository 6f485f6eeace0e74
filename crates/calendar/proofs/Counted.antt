-- The counted date of a day is a valid date, as many days after 1970-01-01.
-- Assumes nothing.
use Rattle.basis.proofs.Std.{◌≡◌, refl, sym, ap, subst, ◌∙◌, ℕ, zero, suc, ◌+◌, ◌-◌, ◌≤◌, ◌<◌, add-one, arith, ltb, lit≤, ltb-true, ltb-false, picked}
use Rattle.calendar.specs.declared.Place.{Place}
use Rattle.calendar.specs.Days.{years, months, leap_of, year_days, month_days, day_of, Valid, InYear, InMonth}
use Rattle.calendar.specs.Civil.{year_from, month_from, date_at, date_of}
use Rattle.calendar.proofs.Years.{year_step, ten_thousand}
use Rattle.calendar.proofs.Months.{month_step, twelve}
use Rattle.calendar.proofs.Once.{once}

year_counted : (d k y n : ℕ) → 1970 ≤ y → y + k ≡ 9999 → years (y - 1970) + n ≡ d → d < 2932897 → InYear d (year_from k y n)
unfolding year_from
year_counted d zero y n h e c b =
    let f : y ≡ 9999 = omega arith in
    let s = subst (λ (z : ℕ). years (z + 1 - 1970) ≡ years (z - 1970) + year_days z) f (year_step y h) in
    record { from = h; to = omega arith; count = c; within = omega (arith, year_step y h, ap (λ (z : ℕ). years (z + 1 - 1970)) f, ten_thousand) }
year_counted d (suc k) y n h e c b =
    picked (InYear d) (ltb n (year_days y)) _ _
    (λ t. record { from = h; to = omega arith; count = c; within = ltb-true n (year_days y) t })
    (λ t. let g = ltb-false n (year_days y) t in
    let a : suc y ≡ y + 1 = sym (add-one y) in
    year_counted d k (suc y) (n - year_days y) (omega arith) (omega arith) (omega (arith, year_step y h, ap (λ (z : ℕ). years (z - 1970)) a)) b)

month_counted : (l d k m n : ℕ) → 1 ≤ m → m + k ≡ 12 → months l (m - 1) + n ≡ d → d < 365 + l → InMonth l d (month_from l k m n)
unfolding month_from
month_counted l d zero m n h e c b =
    let f : m ≡ 12 = omega arith in
    record { from = h; to = omega arith; count = c; within = omega (arith, month_step l m h, ap (λ (z : ℕ). months l (z + 1 - 1)) f, twelve l) }
month_counted l d (suc k) m n h e c b =
    picked (InMonth l d) (ltb n (month_days l m)) _ _
    (λ t. record { from = h; to = omega arith; count = c; within = ltb-true n (month_days l m) t })
    (λ t. let g = ltb-false n (month_days l m) t in
    let a : suc m ≡ m + 1 = sym (add-one m) in
    month_counted l d k (suc m) (n - month_days l m) (omega arith) (omega arith) (omega (arith, month_step l m h, ap (λ (z : ℕ). months l (z - 1)) a)) b)

-- a year and a month of it make a valid date of the day
module _ (n : ℕ) (y m : Place) (p : InYear n y) (q : InMonth (leap_of y.number) y.passed m) where
  placed_valid : Valid (date_at y.number m)
  placed_valid = record { year = (p.from, p.to); month = (q.from, q.to); day = (omega arith, omega (arith, q.within)) }

  placed_day : day_of (date_at y.number m) ≡ n
  unfolding day_of
  placed_day = omega (arith, p.count, q.count)

pub year_right : (n : ℕ) → n < 2932897 → InYear n (year_from 8029 1970 n)
unfolding years
year_right n h = year_counted n 8029 1970 n (lit≤ tt) refl (omega arith) h

pub month_right : (l n : ℕ) → n < 365 + l → InMonth l n (month_from l 11 1 n)
unfolding months
month_right l n h = month_counted l n 11 1 n (lit≤ tt) refl (omega arith) h

module _ (n : ℕ) (h : n < 2932897) where
  pub date_valid : Valid (date_of n)
  unfolding date_of
  date_valid = let p = year_right n h in let y = year_from 8029 1970 n in placed_valid n y (month_from (leap_of y.number) 11 1 y.passed) p (month_right (leap_of y.number) y.passed p.within)

  pub date_day : day_of (date_of n) ≡ n
  unfolding date_of
  date_day = let p = year_right n h in let y = year_from 8029 1970 n in placed_day n y (month_from (leap_of y.number) 11 1 y.passed) p (month_right (leap_of y.number) y.passed p.within)

  -- a year and a month of it are found by any other way: it is that date
  pub date_is : (y m : Place) → InYear n y → InMonth (leap_of y.number) y.passed m → date_at y.number m ≡ date_of n
  date_is y m p q = once (date_at y.number m) (date_of n) (placed_valid n y m p q) date_valid (placed_day n y m p q ∙ sym date_day)
