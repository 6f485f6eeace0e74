-- The days of the years, counted and by a formula.
-- Assumes nothing.
use Rattle.basis.proofs.Std.{◌≡◌, refl, ap, subst, ◌∙◌, ℕ, zero, suc, ◌+◌, ◌-◌, ◌*◌, ◌/◌, ◌≤◌, ◌<◌, le_refl, le_trans, le-add_right, add-zero, add-suc, arith}
use Rattle.calendar.specs.Days.{leap_of, year_days, years}
use Rattle.calendar.proofs.LeapYears.{leap_adds}

pub year_step : (y : ℕ) → 1970 ≤ y → years (y + 1 - 1970) ≡ years (y - 1970) + year_days y
unfolding years
year_step y h =
    let e : y + 1 - 1970 ≡ suc (y - 1970) = omega arith in
    let f : 1970 + (y - 1970) ≡ y = omega arith in
    ap years e ∙ ap (λ (k : ℕ). years (y - 1970) + year_days k) f

years_more : (k n : ℕ) → years k ≤ years (k + n)
unfolding years
years_more k zero = rw add-zero (le_refl (years k))
years_more k (suc n) = rw add-suc (le_trans (years_more k n) (le-add_right (years (k + n)) (year_days (1970 + (k + n)))))

pub years_le : (a b : ℕ) → a ≤ b → years a ≤ years b
years_le a b h = let e : a + (b - a) ≡ b = omega arith in subst (λ (k : ℕ). years a ≤ years k) e (years_more a (b - a))

-- the days before year y by a formula: 365 for each, and one for each leap year
by_formula : (k : ℕ) → years k + 719162 + (1969 + k) / 100 ≡ 365 * (1969 + k) + (1969 + k) / 4 + (1969 + k) / 400
unfolding years
by_formula zero = refl
by_formula (suc k) =
    let e : 1969 + k + 1 ≡ 1969 + suc k = omega arith in
    let adds = subst (λ (z : ℕ). leap_of z + (1969 + k) / 4 + z / 100 + (1969 + k) / 400 ≡ z / 4 + (1969 + k) / 100 + z / 400) e (leap_adds (1969 + k)) in
    more (years k) (leap_of (1970 + k)) (1969 + k) (1969 + suc k) _ _ _ _ _ _ (by_formula k) (ap (λ (z : ℕ). leap_of z + (1969 + k) / 4 + (1969 + suc k) / 100 + (1969 + k) / 400) (omega arith) ∙ adds) (omega arith)
  where
    more : (s l p z a b c a' b' c' : ℕ) → s + 719162 + b ≡ 365 * p + a + c → l + a + b' + c ≡ a' + b + c' → z ≡ p + 1 → s + (365 + l) + 719162 + b' ≡ 365 * z + a' + c'
    more s l p z a b c a' b' c' e f g = omega arith

pub years_formula : (y : ℕ) → 1970 ≤ y → years (y - 1970) + 719162 + (y - 1) / 100 ≡ 365 * (y - 1) + (y - 1) / 4 + (y - 1) / 400
years_formula y h =
    let e : 1969 + (y - 1970) ≡ y - 1 = omega arith in
    subst (λ (p : ℕ). years (y - 1970) + 719162 + p / 100 ≡ 365 * p + p / 4 + p / 400) e (by_formula (y - 1970))

-- the days to 10000
pub ten_thousand : years 8030 ≡ 2932897
unfolding years leap_of
ten_thousand = refl

pub years_below : (y : ℕ) → 1970 ≤ y → y ≤ 9999 → years (y - 1970) < 2932897
years_below y a b = omega (arith, year_step y a, years_le (y + 1 - 1970) 8030 (omega arith), ten_thousand)

pub formula_fits : (s f h : ℕ) → s + 719162 + h ≡ f → 719162 ≤ f - h
formula_fits s f h e = omega arith

pub formula_is : (s f h : ℕ) → s + 719162 + h ≡ f → f - h - 719162 ≡ s
formula_is s f h e = omega arith
