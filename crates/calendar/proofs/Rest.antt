-- What stands after the seconds: zero to six decimals behind a dot, and Z. The function reads exactly these texts.
-- Assumes nothing.
use Rattle.basis.proofs.Std.{◌≡◌, refl, sym, ap, ap₂, subst, ◌∙◌, Bool, true, false, List, [], ◌∷◌, ◌++◌, ℕ, zero, suc, ◌+◌, ◌-◌, ◌/◌, ◌%◌, ◌≤◌, ◌<◌, arith, length, take, drop, get_or, length-append, take_at, get_or_at, take-suc, take_all, ltb, leb, eqb, ltb-true, ltb-false, leb-true, eqb-true, le-ltb, le-leb, eq-eqb, pick, both, text, picked}
use Rattle.std.specs.List.{list_all}
use Rattle.std.specs.Prelude.{◌&&◌}
use Rattle.calendar.specs.declared.Time.{Time}
use Rattle.calendar.specs.declared.Time.TheVariants.{Is, No}
use Rattle.calendar.specs.Text.{decimals}
use Rattle.calendar.specs.Read.{is_digit, are_digits, one_at, pointed, millis, read_decimals, read_rest}

-- ---- a row of digits, one by one

pub all_is : (s : List ℕ) → list_all is_digit s ≡ are_digits s
all_is [] = refl
all_is (b ∷ s) = elim (is_digit b) as (λ t. (t && list_all is_digit s) ≡ both t (are_digits s)) [ true ↦ all_is s | false ↦ refl ]

-- ---- their number

both_parts : (a b : Bool) → both a b ≡ true → (a ≡ true) × (b ≡ true)
both_parts true b e = (refl, e)
both_parts false b e = absurd (let z : ◌≡◌ {A = ℕ} 0 1 = cc in omega arith)

digit_most : (b : ℕ) → is_digit b ≡ true → b - 48 ≤ 9
digit_most b e = omega (arith, leb-true b 57 (both_parts (leb 48 b) (leb b 57) e).1)

one_most : (ds : List ℕ) (i : ℕ) → are_digits ds ≡ true → one_at ds i ≤ 9
one_most [] i e = omega arith
one_most (d ∷ ds) zero e = digit_most d (both_parts (is_digit d) (are_digits ds) e).0
one_most (d ∷ ds) (suc i) e = one_most ds i (both_parts (is_digit d) (are_digits ds) e).1

pub millis_most : (ds : List ℕ) → are_digits ds ≡ true → millis ds ≤ 999
millis_most ds e = omega (arith, one_most ds 0 e, one_most ds 1 e, one_most ds 2 e)

-- three digits are the decimals of their number, and the decimals of a number are digits
module _ (x : ℕ) (h : x < 10) where
  digit_is : is_digit (48 + x) ≡ true
  digit_is = rw (le-leb 48 (48 + x) (omega arith), le-leb (48 + x) 57 (omega arith))

pub digits_are : (m : ℕ) → are_digits (decimals 3 m) ≡ true
digits_are m = rw (digit_is (m / 10 / 10 % 10) (omega arith), digit_is (m / 10 % 10) (omega arith), digit_is (m % 10) (omega arith))

-- ---- the texts

pub record RestForm (t : List ℕ) (ds : List ℕ) : Type 0 where
  pub digits : are_digits ds ≡ true
  pub most : length ds ≤ 6
  pub said : t ≡ pointed ds ++ text "Z"

pub data ReadsRest (t : List ℕ) : Time → Type 0 where
  is_rest : (ds : List ℕ) → RestForm t ds → ReadsRest t (Is (millis ds) (length ds))
  no_rest : ((ds : List ℕ) → RestForm t ds → ⊥) → ReadsRest t No

pub decimals_read : (ds : List ℕ) → 1 ≤ length ds → length ds ≤ 6 → are_digits ds ≡ true → read_decimals ds ≡ Is (millis ds) (length ds)
unfolding read_decimals
decimals_read ds l h e = rw (le-ltb (length ds) 1 l, le-ltb 6 (length ds) h, e)

pub decimals_refused : (ds : List ℕ) → are_digits ds ≡ false → read_decimals ds ≡ No
unfolding read_decimals
decimals_refused ds e = rw e (by (ltb (length ds) 1) (ltb 6 (length ds)))
  where
    by : (a b : Bool) → pick a No (pick b No No) ≡ No
    by true b = refl
    by false true = refl
    by false false = refl

-- a text from its parts
rest_by : (t ds : List ℕ) → 2 ≤ length t → get_or t (length t - 1) 0 ≡ 90 → get_or t 0 0 ≡ 46 → take (length t - 1 - 1) (drop 1 t) ≡ ds → read_rest t ≡ read_decimals ds
unfolding read_rest
rest_by t ds n z d e = rw (le-ltb (length t) 1 (omega arith), eq-eqb (get_or t (length t - 1) 0) 90 z, le-ltb (length t) 2 n, eq-eqb (get_or t 0 0) 46 d, e)

rest_read : (ds : List ℕ) → are_digits ds ≡ true → length ds ≤ 6 → read_rest (pointed ds ++ text "Z") ≡ Is (millis ds) (length ds)
unfolding read_rest
rest_read [] g h = refl
rest_read (d ∷ ds) g h =
    let t = pointed (d ∷ ds) ++ text "Z" in
    let n : length t ≡ length (d ∷ ds) + 2 = omega (arith, length-append (pointed (d ∷ ds)) (text "Z")) in
    let z : get_or t (length t - 1) 0 ≡ 90 = get_or_at (pointed (d ∷ ds)) 90 [] 0 (length t - 1) (omega (arith, n)) in
    let b : take (length t - 1 - 1) (drop 1 t) ≡ d ∷ ds = take_at (d ∷ ds) (text "Z") (length t - 1 - 1) (omega (arith, n)) in
    rest_by t (d ∷ ds) (omega (arith, n)) z refl b ∙ decimals_read (d ∷ ds) (omega arith) h g

pub rest_complete : (t ds : List ℕ) → RestForm t ds → read_rest t ≡ Is (millis ds) (length ds)
rest_complete t ds f = ap read_rest f.said ∙ rest_read ds f.digits f.most

-- what was read has the form
pub record Sound (t : List ℕ) (m k : ℕ) : Type 0 where
  pub ds : List ℕ
  pub form : RestForm t ds
  pub millis_are : m ≡ millis ds
  pub count : k ≡ length ds

abbrev IfRead : List ℕ → Time → Type 0
IfRead t (Is m k) = Sound t m k
IfRead t No = Unit {0}

-- a text of two and more characters is its first, what stands between, and its last
parts : (t : List ℕ) → 2 ≤ length t → t ≡ get_or t 0 0 ∷ (take (length t - 1 - 1) (drop 1 t) ++ (get_or t (length t - 1) 0 ∷ []))
parts [] h = absurd (omega arith)
parts (x ∷ xs) h =
    ap (λ (l : List ℕ). x ∷ l) (ends xs (omega arith)
    ∙ ap₂ (λ (j k : ℕ). take j xs ++ (get_or (x ∷ xs) k 0 ∷ [])) (before xs) (last xs (omega arith)))
  where
    ends : (xs : List ℕ) → 1 ≤ length xs → xs ≡ take (length xs - 1) xs ++ (get_or xs (length xs - 1) 0 ∷ [])
    ends xs h =
        let n : length xs ≡ suc (length xs - 1) = omega arith in
        sym (take_all (length xs) xs (omega arith)) ∙ ap (λ (k : ℕ). take k xs) n ∙ take-suc xs (length xs - 1) 0 (omega arith)

    before : (xs : List ℕ) → length xs - 1 ≡ length (x ∷ xs) - 1 - 1
    before xs = omega arith

    last : (xs : List ℕ) → 1 ≤ length xs → suc (length xs - 1) ≡ length (x ∷ xs) - 1
    last xs h = omega arith

sound_decimals : (t ds : List ℕ) → t ≡ 46 ∷ (ds ++ (90 ∷ [])) → IfRead t (read_decimals ds)
unfolding read_decimals
sound_decimals t ds e =
    picked (IfRead t) (ltb (length ds) 1) No _ (λ _. tt)
    (λ l. picked (IfRead t) (ltb 6 (length ds)) No _ (λ _. tt)
    (λ h. picked (IfRead t) (are_digits ds) (Is (millis ds) (length ds)) No
    (λ g. record { ds = ds; form = record { digits = g; most = ltb-false 6 (length ds) h; said = e ∙ sym (with_dot ds (ltb-false (length ds) 1 l)) }; millis_are = refl; count = refl })
    (λ _. tt)))
  where
    with_dot : (ds : List ℕ) → 1 ≤ length ds → pointed ds ++ text "Z" ≡ 46 ∷ (ds ++ (90 ∷ []))
    with_dot [] h = absurd (omega arith)
    with_dot (d ∷ ds) h = refl

sound_rest : (t : List ℕ) → IfRead t (read_rest t)
unfolding read_rest
sound_rest t =
    picked (IfRead t) (ltb (length t) 1) No _ (λ _. tt)
    (λ n. picked (IfRead t) (eqb (get_or t (length t - 1) 0) 90) _ No
    (λ z. picked (IfRead t) (ltb (length t) 2) (Is 0 0) _
    (λ o. record { ds = []; form = record { digits = refl; most = omega arith; said = alone t (ltb-false (length t) 1 n) (ltb-true (length t) 2 o) (eqb-true (get_or t (length t - 1) 0) 90 z) }; millis_are = refl; count = refl })
    (λ m. picked (IfRead t) (eqb (get_or t 0 0) 46) _ No
    (λ d. sound_decimals t (take (length t - 1 - 1) (drop 1 t)) (parts t (ltb-false (length t) 2 m)
    ∙ ap₂ (λ (x y : ℕ). x ∷ (take (length t - 1 - 1) (drop 1 t) ++ (y ∷ []))) (eqb-true (get_or t 0 0) 46 d) (eqb-true (get_or t (length t - 1) 0) 90 z)))
    (λ _. tt)))
    (λ _. tt))
  where
    alone : (t : List ℕ) → 1 ≤ length t → length t < 2 → get_or t (length t - 1) 0 ≡ 90 → t ≡ text "Z"
    alone [] n o e = absurd (omega arith)
    alone (x ∷ []) n o e = ap (λ (y : ℕ). y ∷ []) e
    alone (x ∷ y ∷ l) n o e = absurd (omega arith)

pub rest_answers : (t : List ℕ) → ReadsRest t (read_rest t)
rest_answers t = by (read_rest t) refl (sound_rest t)
  where
    no_is : {X : Type 0} {m k : ℕ} → No ≡ Is m k → X
    no_is e = absurd (let z : ◌≡◌ {A = ℕ} 0 1 = cc in omega arith)

    by : (r : Time) → read_rest t ≡ r → IfRead t r → ReadsRest t r
    by (Is m k) e s = subst (ReadsRest t) (ap₂ Is (sym s.millis_are) (sym s.count)) (is_rest s.ds s.form)
    by No e s = no_rest (λ ds f. no_is (sym e ∙ rest_complete t ds f))

pub rest_most : {t : List ℕ} {m k : ℕ} → ReadsRest t (Is m k) → m ≤ 999
rest_most (is_rest ds f) = millis_most ds f.digits
