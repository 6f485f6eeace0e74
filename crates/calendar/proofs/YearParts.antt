-- The year of a day, by parts of 400, 100, 4 and 1 years from year 1 on.
-- Assumes nothing.
use Rattle.basis.proofs.Std.{◌≡◌, refl, sym, ap, subst, ◌∙◌, inl, inr, ⊎_elim, ℕ, ◌+◌, ◌-◌, ◌*◌, ◌/◌, ◌%◌, ◌≤◌, ◌<◌, sub-zero, mod-lt, mod-eq-sub-div-mul, div-eq_of_lt, div-lt_iff_lt-mul, div-mul-le_self, mul-div_cancel, div_self, arith, lit≤, lt_or_ge}
use mir.Val.{Fits}
use mir.Syntax.{w64}
use Rattle.calendar.specs.Days.{leap_of, year_days, years, InYear}
use Rattle.calendar.proofs.LeapYears.{leap_year}
use Rattle.calendar.proofs.Years.{years_formula}

-- of r days, at most four times s, b whole parts of s days are passed: three at most, so that the last day of the four belongs to the fourth
record Parts (s r b : ℕ) : Type 0 where
  pub three : b ≤ 3
  pub fits : b * s ≤ r
  pub most : r - b * s ≤ s
  pub less : b < 3 → r - b * s < s

quarters : (s r : ℕ) → 0 < s → r ≤ 4 * s → Parts s r (r / s - r / (4 * s))
quarters s r pos h =
    ⊎_elim
    (λ (g : r < 4 * s).
    let q : r / s - r / (4 * s) ≡ r / s = rw (div-eq_of_lt g) (sub-zero (r / s)) in
    subst (Parts s r) (sym q) (whole g))
    (λ (g : 4 * s ≤ r).
    let e : 4 * s ≡ r = omega arith in
    subst (λ (k : ℕ). Parts s k (k / s - k / (4 * s))) e last)
    (lt_or_ge r (4 * s))
  where
    whole : r < 4 * s → Parts s r (r / s)
    whole g =
        let c : r / s < 4 = (div-lt_iff_lt-mul pos).1 g in
        let m = mod-eq-sub-div-mul r s in
        let l = mod-lt r pos in
        record {
          three = omega arith;
          fits = div-mul-le_self r s;
          most = subst (λ (k : ℕ). k ≤ s) m (omega (arith, l));
          less = λ _. subst (λ (k : ℕ). k < s) m l;
        }

    four : (s : ℕ) → 0 < s → 0 < 4 * s
    four s p = omega arith

    last : Parts s (4 * s) (4 * s / s - 4 * s / (4 * s))
    last =
        let f : 4 * s / s - 4 * s / (4 * s) ≡ 3 = rw (mul-div_cancel 4 pos, div_self (four s pos)) in
        subst (Parts s (4 * s)) (sym f) (record { three = lit≤ tt; fits = omega arith; most = omega arith; less = λ z. absurd (omega arith) })

pub ones_fit : (q : ℕ) → 365 * (q % 1461 / 365 - q % 1461 / 1460) ≤ q % 1461
ones_fit q = let p = (quarters 365 (q % 1461) (lit≤ tt) (omega arith)).fits in subst (λ (k : ℕ). k ≤ q % 1461) (times (q % 1461 / 365 - q % 1461 / 1460)) p
  where
    times : (e : ℕ) → e * 365 ≡ 365 * e
    times e = omega arith

-- a parts of 400 years, b of 100, c of 4 and e years after year 1, with g days passed of the next year, are n days after 1970-01-01
record Sorted (n a b c e g : ℕ) : Type 0 where
  pub total : n + 719162 ≡ 146097 * a + 36524 * b + 1461 * c + 365 * e + g
  pub bs : b ≤ 3
  pub cs : c ≤ 24
  pub es : e ≤ 3
  pub most : g ≤ 365
  pub less : e < 3 → g < 365
  pub last : c ≡ 24 → b < 3 → g < 365

low : (n a b c e g : ℕ) → Sorted n a b c e g → 1969 ≤ 400 * a + 100 * b + 4 * c + e
low n a b c e g s = ⊎_elim (λ (h : e < 3). let k = s.less h in omega arith) (λ (h : 3 ≤ e). omega arith) (lt_or_ge e 3)

high : (n a b c e g : ℕ) → n < 2932897 → Sorted n a b c e g → 400 * a + 100 * b + 4 * c + e ≤ 9998
high n a b c e g h s = omega arith

module _ (a b c e : ℕ) (hb : b ≤ 3) (hc : c ≤ 24) (he : e ≤ 3) where
  fourths : (400 * a + 100 * b + 4 * c + e) / 4 ≡ 100 * a + 25 * b + c
  fourths = omega arith

  hundredths : (400 * a + 100 * b + 4 * c + e) / 100 ≡ 4 * a + b
  hundredths = omega arith

  four_hundredths : (400 * a + 100 * b + 4 * c + e) / 400 ≡ a
  four_hundredths = omega arith

-- the year before which that many years passed is long enough
enough : (n a b c e g : ℕ) → Sorted n a b c e g → g < year_days (400 * a + 100 * b + 4 * c + e + 1)
enough n a b c e g s = ⊎_elim (λ (h : g < 365). omega arith) (λ (h : 365 ≤ g). omega (arith, is_leap h)) (lt_or_ge g 365)
  where
    fourth : (a b c e : ℕ) → e ≡ 3 → (400 * a + 100 * b + 4 * c + e + 1) % 4 ≡ 0
    fourth a b c e h = omega arith

    no_hundredth : (a b c e : ℕ) → e ≡ 3 → c < 24 → (400 * a + 100 * b + 4 * c + e + 1) % 100 ≡ 0 → ⊥
    no_hundredth a b c e h k z = let q : (400 * a + 100 * b + 4 * c + e + 1) / 100 ≡ 4 * a + b = omega (arith, h, k) in omega (arith, h, k, z, q)

    four_hundredth : (a b c e : ℕ) → e ≡ 3 → c ≡ 24 → b ≡ 3 → (400 * a + 100 * b + 4 * c + e + 1) % 400 ≡ 0
    four_hundredth a b c e h k z = omega arith

    is_leap : 365 ≤ g → leap_of (400 * a + 100 * b + 4 * c + e + 1) ≡ 1
    is_leap h =
        let three : e ≡ 3 = ⊎_elim (λ (k : e < 3). absurd (let z = s.less k in omega arith)) (λ (k : 3 ≤ e). omega (arith, s.es)) (lt_or_ge e 3) in
        leap_year _ (fourth a b c e three)
        (⊎_elim (λ (k : c < 24). inl (no_hundredth a b c e three k))
        (λ (k : 24 ≤ c). let q : c ≡ 24 = omega (arith, s.cs) in
        inr (four_hundredth a b c e three q (⊎_elim (λ (w : b < 3). absurd (let z = s.last q w in omega arith)) (λ (w : 3 ≤ b). omega (arith, s.bs)) (lt_or_ge b 3))))
        (lt_or_ge c 24))

sorted_year : (n a b c e g : ℕ) → n < 2932897 → Sorted n a b c e g → InYear n (record { number = 400 * a + 100 * b + 4 * c + e + 1; passed = g })
sorted_year n a b c e g h s =
    let p = 400 * a + 100 * b + 4 * c + e in
    let l : 1970 ≤ p + 1 = omega (arith, low n a b c e g s) in
    record {
      from = l;
      to = omega (arith, high n a b c e g h s);
      count = counted (years (p + 1 - 1970)) (p + 1) ((p + 1 - 1) / 4) ((p + 1 - 1) / 100) ((p + 1 - 1) / 400) (years_formula (p + 1) l) (ap (λ (k : ℕ). k / 4) (back p) ∙ fourths a b c e s.bs s.cs s.es) (ap (λ (k : ℕ). k / 100) (back p) ∙ hundredths a b c e s.bs s.cs s.es) (ap (λ (k : ℕ). k / 400) (back p) ∙ four_hundredths a b c e s.bs s.cs s.es) refl s.total;
      within = enough n a b c e g s;
    }
  where
    back : (p : ℕ) → p + 1 - 1 ≡ p
    back p = omega arith

    counted : (d y q u v : ℕ) → d + 719162 + u ≡ 365 * (y - 1) + q + v → q ≡ 100 * a + 25 * b + c → u ≡ 4 * a + b → v ≡ a → y ≡ 400 * a + 100 * b + 4 * c + e + 1 → n + 719162 ≡ 146097 * a + 36524 * b + 1461 * c + 365 * e + g → d + g ≡ n
    counted d y q u v f i j k m t = omega arith

-- what is left of each part is sorted into the next
sort :
    (n a r b q c t e : ℕ) → n + 719162 ≡ 146097 * a + r → Parts 36524 r b → q ≡ r - b * 36524 → q ≡ 1461 * c + t → t < 1461 → Parts 365 t e → Sorted n a b c e (t - 365 * e)
sort n a r b q c t e w B hq v ts E =
    let rb : r ≡ 36524 * b + q = left r b q B.fits hq in
    let g = t - 365 * e in
    let te : t ≡ 365 * e + g = passed t e E.fits in
    record {
      total = sum n a r b q c t e g w rb v te;
      bs = B.three;
      cs = fours q c t (subst (λ (k : ℕ). k ≤ 36524) (sym hq) B.most) v;
      es = E.three;
      most = subst (λ (k : ℕ). t - k ≤ 365) (times e) E.most;
      less = λ h. subst (λ (k : ℕ). t - k < 365) (times e) (E.less h);
      last = λ h k. ends q c t e g (subst (λ (z : ℕ). z < 36524) (sym hq) (B.less k)) v h te E.three (subst (λ (z : ℕ). t - z ≤ 365) (times e) E.most) (λ z. subst (λ (y : ℕ). t - y < 365) (times e) (E.less z));
    }
  where
    times : (e : ℕ) → e * 365 ≡ 365 * e
    times e = omega arith

    left : (r b q : ℕ) → b * 36524 ≤ r → q ≡ r - b * 36524 → r ≡ 36524 * b + q
    left r b q h k = omega arith

    passed : (t e : ℕ) → e * 365 ≤ t → t ≡ 365 * e + (t - 365 * e)
    passed t e h = omega arith

    sum : (n a r b q c t e g : ℕ) → n + 719162 ≡ 146097 * a + r → r ≡ 36524 * b + q → q ≡ 1461 * c + t → t ≡ 365 * e + g → n + 719162 ≡ 146097 * a + 36524 * b + 1461 * c + 365 * e + g
    sum n a r b q c t e g h i j k = omega arith

    fours : (q c t : ℕ) → q ≤ 36524 → q ≡ 1461 * c + t → c ≤ 24
    fours q c t h k = omega arith

    ends : (q c t e g : ℕ) → q < 36524 → q ≡ 1461 * c + t → c ≡ 24 → t ≡ 365 * e + g → e ≤ 3 → g ≤ 365 → (e < 3 → g < 365) → g < 365
    ends q c t e g h i j k l m f = ⊎_elim (λ (z : e < 3). f z) (λ (z : 3 ≤ e). omega (arith, h, i, j, k, z)) (lt_or_ge e 3)

-- parts of 400, 100, 4 and 1 years after year 1, and what is left
pub year_parts :
    (n a r b q c t e : ℕ) → n < 2932897 → a ≡ (n + 719162) / 146097 → r ≡ (n + 719162) % 146097 → b ≡ r / 36524 - r / 146096 → q ≡ r - b * 36524 → c ≡ q / 1461 → t ≡ q % 1461 → e ≡ t / 365 - t / 1460 → InYear n (record { number = 400 * a + 100 * b + 4 * c + e + 1; passed = t - 365 * e })
year_parts n a r b q c t e hn ha hr hb hq hc ht he =
    let rs : r < 146097 = below n r hr in
    let B : Parts 36524 r b = subst (Parts 36524 r) (sym hb) (quarters 36524 r (lit≤ tt) (omega arith)) in
    let ts : t < 1461 = short q t ht in
    let E : Parts 365 t e = subst (Parts 365 t) (sym he) (quarters 365 t (lit≤ tt) (omega arith)) in
    let w : n + 719162 ≡ 146097 * a + r = whole n a r ha hr in
    let v : q ≡ 1461 * c + t = fours q c t hc ht in
    sorted_year n a b c e (t - 365 * e) hn (sort n a r b q c t e w B hq v ts E)
  where
    below : (n r : ℕ) → r ≡ (n + 719162) % 146097 → r < 146097
    below n r h = omega arith

    short : (q t : ℕ) → t ≡ q % 1461 → t < 1461
    short q t h = omega arith

    whole : (n a r : ℕ) → a ≡ (n + 719162) / 146097 → r ≡ (n + 719162) % 146097 → n + 719162 ≡ 146097 * a + r
    whole n a r h k = omega arith

    fours : (q c t : ℕ) → c ≡ q / 1461 → t ≡ q % 1461 → q ≡ 1461 * c + t
    fours q c t h k = omega arith

pub before_year : (y : ℕ) → y + 1 ≤ 9999 → Fits w64 y
before_year y h = omega arith

pub year_fits : (y : ℕ) → y ≤ 9999 → Fits w64 y
year_fits y h = omega arith
