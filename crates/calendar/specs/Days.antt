-- The calendar counted in days: leap years, the days of a year and of a month, and the days from 1970-01-01 to a date.
-- Assumes nothing.
use Rattle.std.specs.Prelude.{◌≡◌, [], ◌∷◌, ℕ, zero, suc, ◌+◌, ◌-◌, ◌%◌, ◌≤◌, ◌<◌, eqb, get_or}
use Rattle.basis.specs.Pick.{pick}
use Rattle.calendar.specs.declared.Date.{Date}
use Rattle.calendar.specs.declared.Place.{Place}

-- 1 in a leap year, else 0: every fourth year, but no hundredth, but every four hundredth
unfoldable pub leap_of : ℕ → ℕ
leap_of y = pick (eqb (y % 4) 0) (pick (eqb (y % 100) 0) (pick (eqb (y % 400) 0) 1 0) 1) 0

abbrev pub year_days : ℕ → ℕ
year_days y = 365 + leap_of y

-- the days of month m, from 1 on; l is 1 in a leap year, else 0
abbrev pub month_days : ℕ → ℕ → ℕ
month_days l m = get_or (0 ∷ 31 ∷ (28 + l) ∷ 31 ∷ 30 ∷ 31 ∷ 30 ∷ 31 ∷ 31 ∷ 30 ∷ 31 ∷ 30 ∷ 31 ∷ []) m 0

-- the days of the k years from 1970 on
unfoldable pub years : ℕ → ℕ
years zero = 0
years (suc k) = years k + year_days (1970 + k)

-- the days of a year's first k months
unfoldable pub months : ℕ → ℕ → ℕ
months l zero = 0
months l (suc k) = months l k + month_days l (suc k)

-- a date of the years 1970 to 9999
pub record Valid (d : Date) : Type 0 where
  pub year : (1970 ≤ d.year) × (d.year ≤ 9999)
  pub month : (1 ≤ d.month) × (d.month ≤ 12)
  pub day : (1 ≤ d.day) × (d.day ≤ month_days (leap_of d.year) d.month)

-- the days from 1970-01-01 to a date
unfoldable pub day_of : Date → ℕ
day_of d = years (d.year - 1970) + months (leap_of d.year) (d.month - 1) + (d.day - 1)

-- day n after 1970-01-01 is in the year p .number, of which p.passed days went before
pub record InYear (n : ℕ) (p : Place) : Type 0 where
  pub from : 1970 ≤ p.number
  pub to : p.number ≤ 9999
  pub count : years (p.number - 1970) + p.passed ≡ n
  pub within : p.passed < year_days p.number

-- day n of a year is in the month p .number, of which p.passed days went before
pub record InMonth (l n : ℕ) (p : Place) : Type 0 where
  pub from : 1 ≤ p.number
  pub to : p.number ≤ 12
  pub count : months l (p.number - 1) + p.passed ≡ n
  pub within : p.passed < month_days l p.number
