-- The date of a day, by counting: whole years are taken away from 1970 on, then whole months.
-- Assumes nothing.
use Rattle.std.specs.Prelude.{ℕ, zero, suc, ◌+◌, ◌-◌, ltb}
use Rattle.basis.specs.Pick.{pick}
use Rattle.calendar.specs.declared.Date.{Date}
use Rattle.calendar.specs.declared.Place.{Place}
use Rattle.calendar.specs.Days.{leap_of, year_days, month_days}

-- the year that n days after the first of year y are in; it is one of the k years after y, or y
unfoldable pub year_from : ℕ → ℕ → ℕ → Place
year_from zero y n = record { number = y; passed = n }
year_from (suc k) y n = pick (ltb n (year_days y)) (record { number = y; passed = n }) (year_from k (suc y) (n - year_days y))

-- the same of the months of a year
unfoldable pub month_from : ℕ → ℕ → ℕ → ℕ → Place
month_from l zero m n = record { number = m; passed = n }
month_from l (suc k) m n = pick (ltb n (month_days l m)) (record { number = m; passed = n }) (month_from l k (suc m) (n - month_days l m))

abbrev pub date_at : ℕ → Place → Date
date_at y m = record { year = y; month = m.number; day = m.passed + 1 }

abbrev pub date_in : Place → Date
date_in y = date_at y.number (month_from (leap_of y.number) 11 1 y.passed)

-- the date of the day n days after 1970-01-01, to 9999
unfoldable pub date_of : ℕ → Date
date_of n = date_in (year_from 8029 1970 n)
