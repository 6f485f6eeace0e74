-- What is read from the places is read from the view.
-- Assumes nothing.
use Rattle.basis.proofs.Std.{ℕ, suc, ◌≤◌, ◌<◌, ◌≡◌, refl, sym, ◌∙◌, ap, List, [], ◌∷◌, Bool, true, false, ◌⊎◌, inl, inr, ltb, leb, arith, lt-ltb, le-ltb, le-leb, lt-leb, pick, count, lt_or_ge, not_both}
use Rattle.pool.specs.declared.Place.{Place}
use Rattle.pool.specs.declared.Spot.{Spot}
use Rattle.pool.specs.declared.Spot.TheVariants.{At, Nowhere}
use Rattle.pool.specs.declared.Sought.{Sought}
use Rattle.pool.specs.declared.Sought.TheVariants.{Found, Nothing}
use Rattle.pool.specs.Places.{of, lower, higher, older, newer, oldest_from, newest_from, sought_at}
use Rattle.pool_laws.specs.View.{insert, insert_if, records_in, first_where, or_else, last_where}
use Rattle.pool_laws.proofs.Counts.{bit_lt, bit_ge}
use Rattle.pool_laws.proofs.Insert.{number, under, under_more, insert_before, insert_behind}
use Rattle.pool_laws.proofs.Records.{Sorted, records_sorted}

-- of a record and what was found, the one with the lower number; with the higher
abbrev lowest : Place → Sought → Sought
lowest x Nothing = Found x
lowest x (Found y) = pick (leb (number x) (number y)) (Found x) (Found y)

abbrev highest : Place → Sought → Sought
highest x Nothing = Found x
highest x (Found y) = pick (ltb (number y) (number x)) (Found x) (Found y)

none_under : (x z : Place) (l : List Place) → count (under (number x)) (z ∷ l) ≡ 0 → number x ≤ number z
none_under x z l h = go (lt_or_ge (number z) (number x))
  where
    go : (number z < number x) ⊎ (number x ≤ number z) → number x ≤ number z
    go (inl a) = absurd (omega (arith, bit_lt (number z) (number x) a))
    go (inr a) = a

module _ (f : Place → Bool) where
  -- what is found among records of no lower number than x
  pub data Later (x : Place) : Sought → Type 0 where
    nothing : Later x Nothing
    later : {y : Place} → number x ≤ number y → Later x (Found y)

  first_later : (x : Place) (l : List Place) → count (under (number x)) l ≡ 0 → Later x (first_where f l)
  unfolding first_where
  first_later x [] h = nothing
  first_later x (z ∷ l) h = go (f z) (first_later x l (omega arith))
    where
      go : (t : Bool) → Later x (first_where f l) → Later x (pick t (Found z) (first_where f l))
      go true r = later (none_under x z l h)
      go false r = r

  last_later : (x : Place) (l : List Place) → count (under (number x)) l ≡ 0 → Later x (last_where f l)
  unfolding last_where
  last_later x [] h = nothing
  last_later x (z ∷ l) h = go (last_where f l) (last_later x l (omega arith)) (f z)
    where
      go : (s : Sought) → Later x s → (t : Bool) → Later x (or_else s (pick t (Found z) Nothing))
      go (Found y) r t = r
      go Nothing r true = later (none_under x z l h)
      go Nothing r false = nothing

  lowest_later : (x : Place) (s : Sought) → Later x s → lowest x s ≡ Found x
  lowest_later x Nothing r = refl
  lowest_later x (Found y) (later h) = rw (le-leb (number x) (number y) h)

  else_highest : (x : Place) (s : Sought) → Later x s → or_else s (Found x) ≡ highest x s
  else_highest x Nothing r = refl
  else_highest x (Found y) (later h) = rw (le-ltb (number y) (number x) h)

  first_insert : (x : Place) (l : List Place) → Sorted l → first_where f (insert x l) ≡ pick (f x) (lowest x (first_where f l)) (first_where f l)
  unfolding insert first_where
  first_insert x [] s = refl
  first_insert x (z ∷ l) (a, s) = go (lt_or_ge (number z) (number x)) (first_insert x l s)
    where
      before : (b c : Bool) → Later x (pick c (Found z) (first_where f l))
          → pick b (Found x) (pick c (Found z) (first_where f l)) ≡ pick b (lowest x (pick c (Found z) (first_where f l))) (pick c (Found z) (first_where f l))
      before true c r = sym (lowest_later x (pick c (Found z) (first_where f l)) r)
      before false c r = refl

      behind : (b c : Bool) → leb (number x) (number z) ≡ false → (g : Sought) → g ≡ pick b (lowest x (first_where f l)) (first_where f l)
          → pick c (Found z) g ≡ pick b (lowest x (pick c (Found z) (first_where f l))) (pick c (Found z) (first_where f l))
      behind b false e g r = r
      behind true true e g r = rw e
      behind false true e g r = refl

      go : (number z < number x) ⊎ (number x ≤ number z) → first_where f (insert x l) ≡ pick (f x) (lowest x (first_where f l)) (first_where f l)
          → first_where f (insert x (z ∷ l)) ≡ pick (f x) (lowest x (first_where f (z ∷ l))) (first_where f (z ∷ l))
      go (inl h) r = ap (first_where f) (insert_behind x z l h) ∙ behind (f x) (f z) (lt-leb (number x) (number z) h) (first_where f (insert x l)) r
      go (inr h) r =
          ap (first_where f) (insert_before x z l h)
          ∙ before (f x) (f z) (first_later x (z ∷ l) (omega (arith, bit_ge (number z) (number x) h, under_more (number x) (number z) h l)))

  last_insert : (x : Place) (l : List Place) → Sorted l → last_where f (insert x l) ≡ pick (f x) (highest x (last_where f l)) (last_where f l)
  unfolding insert last_where
  last_insert x [] s = refl
  last_insert x (z ∷ l) (a, s) = go (lt_or_ge (number z) (number x)) (last_insert x l s)
    where
      before : (b : Bool) (g : Sought) → Later x g → or_else g (pick b (Found x) Nothing) ≡ pick b (highest x g) g
      before true g r = else_highest x g r
      before false (Found y) r = refl
      before false Nothing r = refl

      behind : (b c : Bool) → ltb (number z) (number x) ≡ true → (k : Sought)
          → or_else (pick b (highest x k) k) (pick c (Found z) Nothing) ≡ pick b (highest x (or_else k (pick c (Found z) Nothing))) (or_else k (pick c (Found z) Nothing))
      behind false c e k = refl
      behind true c e (Found y) = found (ltb (number y) (number x))
        where
          found : (t : Bool) → or_else (pick t (Found x) (Found y)) (pick c (Found z) Nothing) ≡ pick t (Found x) (Found y)
          found true = refl
          found false = refl
      behind true true e Nothing = rw e
      behind true false e Nothing = refl

      go : (number z < number x) ⊎ (number x ≤ number z) → last_where f (insert x l) ≡ pick (f x) (highest x (last_where f l)) (last_where f l)
          → last_where f (insert x (z ∷ l)) ≡ pick (f x) (highest x (last_where f (z ∷ l))) (last_where f (z ∷ l))
      go (inl h) r =
          ap (last_where f) (insert_behind x z l h) ∙ ap (λ (g : Sought). or_else g (pick (f z) (Found z) Nothing)) r
          ∙ behind (f x) (f z) (lt-ltb (number z) (number x) h) (last_where f l)
      go (inr h) r =
          ap (last_where f) (insert_before x z l h)
          ∙ before (f x) (last_where f (z ∷ l)) (last_later x (z ∷ l) (omega (arith, bit_ge (number z) (number x) h, under_more (number x) (number z) h l)))

  -- a test that only records of link m pass
  module _ (m : ℕ) (mine : (x : Place) → f x ≡ true → of m x ≡ true) where
    pub oldest_view : (i : ℕ) (p : List Place) → sought_at (oldest_from f i p) ≡ first_where f (records_in p m)
    unfolding oldest_from records_in first_where
    oldest_view i [] = refl
    oldest_view i (x ∷ p) = go (of m x) refl (f x) refl (oldest_from f (suc i) p) (oldest_view (suc i) p)
      where
        weigh : (b : Spot) → sought_at (lower i x b) ≡ lowest x (sought_at b)
        weigh Nowhere = refl
        weigh (At j y) = two (leb (number x) (number y))
          where
            two : (t : Bool) → sought_at (pick t (At i x) (At j y)) ≡ pick t (Found x) (Found y)
            two true = refl
            two false = refl

        go : (o : Bool) → of m x ≡ o → (t : Bool) → f x ≡ t → (b : Spot) → sought_at b ≡ first_where f (records_in p m)
            → sought_at (older t i x b) ≡ first_where f (insert_if o x (records_in p m))
        go true eo t et b r =
            by t b r ∙ ap (λ (d : Bool). pick d (lowest x (first_where f (records_in p m))) (first_where f (records_in p m))) (sym et)
            ∙ sym (first_insert x (records_in p m) (records_sorted p m))
          where
            by : (t : Bool) (b : Spot) → sought_at b ≡ first_where f (records_in p m) → sought_at (older t i x b) ≡ pick t (lowest x (first_where f (records_in p m))) (first_where f (records_in p m))
            by true b r = weigh b ∙ ap (lowest x) r
            by false b r = r
        go false eo true et b r = not_both (mine x et) eo
        go false eo false et b r = r

    pub newest_view : (i : ℕ) (p : List Place) → sought_at (newest_from f i p) ≡ last_where f (records_in p m)
    unfolding newest_from records_in last_where
    newest_view i [] = refl
    newest_view i (x ∷ p) = go (of m x) refl (f x) refl (newest_from f (suc i) p) (newest_view (suc i) p)
      where
        weigh : (b : Spot) → sought_at (higher i x b) ≡ highest x (sought_at b)
        weigh Nowhere = refl
        weigh (At j y) = two (ltb (number y) (number x))
          where
            two : (t : Bool) → sought_at (pick t (At i x) (At j y)) ≡ pick t (Found x) (Found y)
            two true = refl
            two false = refl

        go : (o : Bool) → of m x ≡ o → (t : Bool) → f x ≡ t → (b : Spot) → sought_at b ≡ last_where f (records_in p m)
            → sought_at (newer t i x b) ≡ last_where f (insert_if o x (records_in p m))
        go true eo t et b r =
            by t b r ∙ ap (λ (d : Bool). pick d (highest x (last_where f (records_in p m))) (last_where f (records_in p m))) (sym et)
            ∙ sym (last_insert x (records_in p m) (records_sorted p m))
          where
            by : (t : Bool) (b : Spot) → sought_at b ≡ last_where f (records_in p m) → sought_at (newer t i x b) ≡ pick t (highest x (last_where f (records_in p m))) (last_where f (records_in p m))
            by true b r = weigh b ∙ ap (highest x) r
            by false b r = r
        go false eo true et b r = not_both (mine x et) eo
        go false eo false et b r = r
