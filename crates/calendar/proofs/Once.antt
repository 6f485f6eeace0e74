-- A day has one date: two valid dates as many days after 1970-01-01 are the same.
-- Assumes nothing.
use Rattle.basis.proofs.Std.{◌≡◌, sym, ap, ⊎_elim, ℕ, ◌+◌, ◌-◌, ◌≤◌, ◌<◌, arith, le_or_lt}
use Rattle.calendar.specs.declared.Date.{Date}
use Rattle.calendar.specs.Days.{years, months, leap_of, year_days, day_of, Valid}
use Rattle.calendar.proofs.Years.{year_step, years_le}
use Rattle.calendar.proofs.Months.{month_step, months_le, twelve}

-- the day within the year
abbrev in_year : Date → ℕ
in_year d = months (leap_of d.year) (d.month - 1) + (d.day - 1)

in_year_lem : (d : Date) → Valid d → in_year d < year_days d.year
in_year_lem d v =
    omega (
      arith,
      v.day.0,
      v.day.1,
      v.month.0,
      month_step (leap_of d.year) d.month v.month.0,
      months_le (leap_of d.year) (d.month + 1 - 1) 12 (omega (arith, v.month.1)),
      twelve (leap_of d.year),
    )

year_lt : (a b : Date) → Valid a → Valid b → a.year < b.year → day_of a < day_of b
unfolding day_of
year_lt a b v w h =
    omega (
      arith,
      in_year_lem a v,
      year_step a.year v.year.0,
      years_le (a.year + 1 - 1970) (b.year - 1970) (omega (arith, v.year.0, h)),
    )

month_lt : (a b : Date) → Valid a → Valid b → a.year ≡ b.year → a.month < b.month → in_year a < in_year b
month_lt a b v w e h =
    let f : leap_of a.year ≡ leap_of b.year = ap leap_of e in
    rw (← f) (omega (
      arith,
      v.day.1,
      v.day.0,
      month_step (leap_of a.year) a.month v.month.0,
      months_le (leap_of a.year) (a.month + 1 - 1) (b.month - 1) (omega (arith, v.month.0, h)),
    ))

order : (m n : ℕ) → (m < n → ⊥) → (n < m → ⊥) → m ≡ n
order m n p q = ⊎_elim (λ (h : m ≤ n). ⊎_elim (λ (g : n ≤ m). omega arith) (λ g. absurd (p g)) (le_or_lt n m)) (λ h. absurd (q h)) (le_or_lt m n)

pub once : (a b : Date) → Valid a → Valid b → day_of a ≡ day_of b → a ≡ b
unfolding day_of
once a b v w e =
    let ey : a.year ≡ b.year = order _ _ (λ h. omega (arith, year_lt a b v w h, e)) (λ h. omega (arith, year_lt b a w v h, e)) in
    let ei : in_year a ≡ in_year b = omega (arith, e, ap (λ (y : ℕ). years (y - 1970)) ey) in
    let em : a.month ≡ b.month = order _ _ (λ h. omega (arith, month_lt a b v w ey h, ei)) (λ h. omega (arith, month_lt b a w v (sym ey) h, ei)) in
    let ed : a.day ≡ b.day = omega (arith, ei, ap (λ (y : ℕ). months (leap_of y) (a.month - 1)) ey, ap (λ (m : ℕ). months (leap_of b.year) (m - 1)) em, v.day.0, w.day.0) in
    λ i. record { year = ey i; month = em i; day = ed i }
