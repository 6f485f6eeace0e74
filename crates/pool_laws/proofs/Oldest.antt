-- What `oldest` finds: a place that passes the test, and none that passes has an older record. Nowhere: no place passes.
-- Assumes nothing.
use Rattle.basis.proofs.Std.{ℕ, suc, ◌+◌, ◌≤◌, ◌<◌, ◌≡◌, refl, List, [], ◌∷◌, Bool, true, false, ◌⊎◌, inl, inr, length, get_or, ltb, leb, arith, leb-true, leb-false, pick, both, lt_or_ge, bit, count}
use Rattle.pool.specs.declared.Place.{Place}
use Rattle.pool.specs.declared.Spot.{Spot}
use Rattle.pool.specs.declared.Spot.TheVariants.{At, Nowhere}
use Rattle.pool.specs.Places.{no_place, lower, older, oldest_from, oldest}
use Rattle.pool_laws.proofs.Counts.{bit_false, bit_and, bit_and_no, bit_and_le, bit_lt, bit_ge, count_cons, count_nil, count_le, count_pos}

module _ (f : Place → Bool) where
  -- it passes, and its record is older than the number q
  abbrev pub below : ℕ → Place → Bool
  below q x = both (f x) (ltb x.entry.sequence q)

  pub below_le : (q : ℕ) (p : List Place) → count (below q) p ≤ count f p
  below_le q p = count_le (below q) f (λ x. bit_and_le (f x) (ltb x.entry.sequence q)) p

  pub below_more : (q r : ℕ) → q ≤ r → (p : List Place) → count (below q) p ≤ count (below r) p
  below_more q r h p = count_le (below q) (below r) (λ x. go (f x) x.entry.sequence) p
    where
      go : (t : Bool) (k : ℕ) → bit (both t (ltb k q)) ≤ bit (both t (ltb k r))
      go false k = omega arith
      go true k = tri (lt_or_ge k q)
        where
          tri : (k < q) ⊎ (q ≤ k) → bit (ltb k q) ≤ bit (ltb k r)
          tri (inl a) = omega (arith, bit_lt k q a, bit_lt k r (omega arith))
          tri (inr a) = omega (arith, bit_ge k q a)

  -- what was found in the list p, whose first place has the index i
  pub data From (i : ℕ) (p : List Place) : Spot → Type 0 where
    nothing : count f p ≡ 0 → From i p Nowhere
    found : {j : ℕ} {x : Place} (k : ℕ) → j ≡ i + k → k < length p → get_or p k no_place ≡ x → f x ≡ true → count (below x.entry.sequence) p ≡ 0 → From i p (At j x)

  passed : (i : ℕ) (x : Place) (p : List Place) (b : Spot) → f x ≡ false → From (suc i) p b → From i (x ∷ p) b
  passed i x p Nowhere e (nothing z) = nothing (omega (arith, count_cons f x p, bit_false (f x) e))
  passed i x p (At j y) e (found k a h g t z) =
      found {j = j} {x = y} (suc k) (omega arith) (omega arith) g t
      (omega (arith, count_cons (below y.entry.sequence) x p, bit_and_no (f x) (ltb x.entry.sequence y.entry.sequence) e))

  here : (i : ℕ) (x : Place) (p : List Place) → f x ≡ true → count (below x.entry.sequence) p ≡ 0 → From i (x ∷ p) (At i x)
  here i x p e z =
      found {j = i} {x = x} 0 (omega arith) (omega arith) refl e
      (omega (arith, count_cons (below x.entry.sequence) x p, bit_and (f x) (ltb x.entry.sequence x.entry.sequence) e, bit_ge x.entry.sequence x.entry.sequence (omega arith)))

  weighed : (i : ℕ) (x : Place) (p : List Place) (b : Spot) → f x ≡ true → From (suc i) p b → From i (x ∷ p) (lower i x b)
  weighed i x p Nowhere e (nothing z) = here i x p e (omega (arith, below_le x.entry.sequence p))
  weighed i x p (At j y) e (found k a h g t z) = go (leb x.entry.sequence y.entry.sequence) refl
    where
      go : (d : Bool) → leb x.entry.sequence y.entry.sequence ≡ d → From i (x ∷ p) (pick d (At i x) (At j y))
      go true d = here i x p e (omega (arith, below_more x.entry.sequence y.entry.sequence (leb-true _ _ d) p))
      go false d =
          found {j = j} {x = y} (suc k) (omega arith) (omega arith) g t
          (omega (arith, count_cons (below y.entry.sequence) x p, bit_and (f x) (ltb x.entry.sequence y.entry.sequence) e, bit_ge x.entry.sequence y.entry.sequence (omega (arith, leb-false x.entry.sequence y.entry.sequence d))))

  oldest_from_lem : (i : ℕ) (p : List Place) → From i p (oldest_from f i p)
  unfolding oldest_from
  oldest_from_lem i [] = nothing (count_nil f)
  oldest_from_lem i (x ∷ p) = go (f x) refl (oldest_from_lem (suc i) p)
    where
      go : (t : Bool) → f x ≡ t → From (suc i) p (oldest_from f (suc i) p) → From i (x ∷ p) (older t i x (oldest_from f (suc i) p))
      go true e r = weighed i x p (oldest_from f (suc i) p) e r
      go false e r = passed i x p (oldest_from f (suc i) p) e r

  -- the oldest of those that pass
  pub record Oldest (p : List Place) : Type 0 where
    pub at : ℕ
    pub what : Place
    pub is : oldest f p ≡ At at what
    pub inside : at < length p
    pub stands : get_or p at no_place ≡ what
    pub passes : f what ≡ true
    pub none_older : count (below what.entry.sequence) p ≡ 0

  pub the_oldest : (p : List Place) → 0 < count f p → Oldest p
  the_oldest p h = go (oldest f p) refl (oldest_from_lem 0 p)
    where
      go : (b : Spot) → oldest f p ≡ b → From 0 p b → Oldest p
      go Nowhere e (nothing z) = absurd (omega arith)
      go (At j x) e (found k a i g t z) =
          let same : k ≡ j = omega arith in
          record { at = j; what = x; is = e; inside = omega arith; stands = rw same at g; passes = t; none_older = z }

  pub no_oldest : (p : List Place) → count f p ≡ 0 → oldest f p ≡ Nowhere
  no_oldest p h = go (oldest f p) refl (oldest_from_lem 0 p)
    where
      go : (b : Spot) → oldest f p ≡ b → From 0 p b → oldest f p ≡ Nowhere
      go Nowhere e r = e
      go (At j x) e (found k a i g t z) = absurd (omega (arith, count_pos f p k no_place i (rw g t)))
