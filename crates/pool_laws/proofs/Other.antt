-- What a settle, a mark and an unmark do to every count, to the invariant, and to a record that was held.
-- Assumes nothing.
use Rattle.basis.proofs.Std.{ℕ, ◌≤◌, ◌<◌, ◌≡◌, refl, sym, ◌∙◌, ap, List, Bool, true, false, ◌⊎◌, inl, inr, length, get_or, set, length-set, length-map, ltb, leb, eqb, arith, eqb-true, pick, both, bit, count, lt_or_ge, both_first, both_second}
use Rattle.pool.specs.declared.Place.{Place}
use Rattle.pool.specs.declared.Pool.{Pool}
use Rattle.pool.specs.declared.Wanted.TheVariants.{Numbered}
use Rattle.pool.specs.declared.Spot.{Spot}
use Rattle.pool.specs.declared.Spot.TheVariants.{At}
use Rattle.pool.specs.Places.{no_place, of, fits}
use Rattle.pool.specs.Pool.{held_in, lost_of, with_of, numbered, sent, mark_of, settle_of, unsent_for, unmark_of}
use Rattle.pool_laws.specs.Acts.{newer_than}
use Rattle.pool_laws.proofs.Counts.{bit_true, bit_false, count_set, count_map, count_same, count_le}
use Rattle.pool_laws.proofs.Oldest.{Oldest, the_oldest, no_oldest}
use Rattle.pool_laws.proofs.Fullest.{outside}
use Rattle.pool_laws.proofs.Inv.{Inv, from, mismarked, of_link}

-- the record of link l numbered k is changed where it stands; where it is not held nothing is
pub data Touched (p : Pool) (l k : ℕ) (new : Place → Place) (r : Pool) : Type 0 where
  absent : count (fits (Numbered l k)) p.places ≡ 0 → r ≡ p → Touched p l k new r
  there : (at : ℕ) (old : Place) → at < length p.places → get_or p.places at no_place ≡ old → fits (Numbered l k) old ≡ true
      → r ≡ record { places = set p.places at (new old); lost = p.lost } → Touched p l k new r

module _ (p : Pool) (l k : ℕ) where
  with_absent : (x : Place) → count (fits (Numbered l k)) p.places ≡ 0 → with_of p (numbered p l k) x p.lost ≡ p
  unfolding with_of
  with_absent x z = rw (no_oldest (fits (Numbered l k)) p.places z)

  with_there : (f : Spot → Place) (at : ℕ) (old : Place) → numbered p l k ≡ At at old
      → with_of p (numbered p l k) (f (numbered p l k)) p.lost ≡ record { places = set p.places at (f (At at old)); lost = p.lost }
  unfolding with_of
  with_there f at old e = rw e

  touches : (f : Spot → Place) (new : Place → Place) → ((at : ℕ) (x : Place) → f (At at x) ≡ new x) → Touched p l k new (with_of p (numbered p l k) (f (numbered p l k)) p.lost)
  touches f new s = go (lt_or_ge 0 (count (fits (Numbered l k)) p.places))
    where
      go : (0 < count (fits (Numbered l k)) p.places) ⊎ (count (fits (Numbered l k)) p.places ≤ 0) → Touched p l k new (with_of p (numbered p l k) (f (numbered p l k)) p.lost)
      go (inl h) =
          let o : Oldest (fits (Numbered l k)) p.places = the_oldest (fits (Numbered l k)) p.places h in
          there o.at o.what o.inside o.stands o.passes (rw (← s o.at o.what) (with_there f o.at o.what o.is))
      go (inr h) = absent (omega arith) (with_absent (f (numbered p l k)) (omega arith))

  pub settle_touches : Touched p l k (λ (x : Place). no_place) (settle_of p l k)
  unfolding settle_of
  settle_touches = touches (λ (b : Spot). no_place) (λ (x : Place). no_place) (λ at x. refl)

  pub mark_touches : Touched p l k (λ (x : Place). record { entry = x.entry; mark = 2 }) (mark_of p l k)
  unfolding mark_of
  mark_touches = touches sent (λ (x : Place). record { entry = x.entry; mark = 2 }) (λ at x. refl)

-- ---- settle: every count that takes no notice of free places falls or stays
pub record Less (p r : Pool) : Type 0 where
  pub size : length r.places ≡ length p.places
  pub lost : r.lost ≡ p.lost
  pub less : (g : Place → Bool) → g no_place ≡ false → count g r.places ≤ count g p.places

pub settle_less : (p : Pool) (l k : ℕ) → Less p (settle_of p l k)
settle_less p l k = go (settle_of p l k) (settle_touches p l k)
  where
    go : (r : Pool) → Touched p l k (λ (x : Place). no_place) r → Less p r
    go r (absent z s) = rw s (record { size = refl; lost = refl; less = λ g h. omega arith })
    go r (there at old i d t s) =
        rw s (record {
          size = length-set p.places at no_place;
          lost = refl;
          less = λ g h. omega (arith, count_set g p.places at no_place no_place i, bit_false (g no_place) h);
        })

-- the same counts say the same of every link
pub lost_same : (p r : Pool) → r.lost ≡ p.lost → (l : ℕ) → lost_of r l ≡ lost_of p l
lost_same p r e l = ap (λ (xs : List ℕ). get_or xs l 0) e

pub less_keeps : (n : ℕ) (q : ℕ → ℕ) (p r : Pool) → Less p r → Inv n p q → Inv n r q
less_keeps n q p r s i =
    record {
      size = s.size ∙ i.size;
      links = ap length s.lost ∙ i.links;
      owned = omega (arith, s.less (outside n) refl, i.owned);
      once = λ l k. omega (arith, s.less (fits (Numbered l k)) refl, i.once l k);
      fresh = λ l. omega (arith, s.less (from l (q l)) refl, i.fresh l);
      most = λ l. omega (arith, s.less (of l) refl, i.most l);
      marked = omega (arith, s.less mismarked refl, i.marked);
      lost = λ l. omega (arith, lost_same p r s.lost l, s.less (of l) refl, i.lost l);
      bound = i.bound;
    }

-- a record that a settle makes leave is the one that is settled
pub settle_only : (p : Pool) (l k m j : ℕ) → 0 < count (fits (Numbered m j)) p.places
    → (0 < count (fits (Numbered m j)) (settle_of p l k).places) ⊎ ((m ≡ l) × (j ≡ k))
settle_only p l k m j h = go (settle_of p l k) (settle_touches p l k)
  where
    two : (x : Place) (b : Bool) → fits (Numbered m j) x ≡ b → fits (Numbered l k) x ≡ true → (b ≡ false) ⊎ ((m ≡ l) × (j ≡ k))
    two x false e t = inl refl
    two x true e t =
        inr (
          sym (of_link m x (both_first (of m x) _ e)) ∙ of_link l x (both_first (of l x) _ t),
          sym (eqb-true _ j (both_second (of m x) (eqb x.entry.sequence j) e)) ∙ eqb-true _ k (both_second (of l x) (eqb x.entry.sequence k) t),
        )

    go : (r : Pool) → Touched p l k (λ (x : Place). no_place) r → (0 < count (fits (Numbered m j)) r.places) ⊎ ((m ≡ l) × (j ≡ k))
    go r (absent z s) = inl (rw s h)
    go r (there at old i d t s) = by (two old (fits (Numbered m j) old) refl t)
      where
        by : (fits (Numbered m j) old ≡ false) ⊎ ((m ≡ l) × (j ≡ k)) → (0 < count (fits (Numbered m j)) r.places) ⊎ ((m ≡ l) × (j ≡ k))
        by (inl f) = inl (rw s (omega (arith, (rw d at (count_set (fits (Numbered m j)) p.places at no_place no_place i)), bit_false _ f)))
        by (inr f) = inr f

-- what is settled is not held
pub settle_gone : (p : Pool) (l k : ℕ) → count (fits (Numbered l k)) p.places ≤ 1 → count (fits (Numbered l k)) (settle_of p l k).places ≡ 0
settle_gone p l k h = go (settle_of p l k) (settle_touches p l k)
  where
    go : (r : Pool) → Touched p l k (λ (x : Place). no_place) r → count (fits (Numbered l k)) r.places ≡ 0
    go r (absent z s) = rw s z
    go r (there at old i d t s) = rw s (omega (arith, (rw d at (count_set (fits (Numbered l k)) p.places at no_place no_place i)), bit_true _ t))

-- ---- mark and unmark: a count that does not look at the mark of a used place stays
pub record Alike (p r : Pool) : Type 0 where
  pub size : length r.places ≡ length p.places
  pub lost : r.lost ≡ p.lost
  pub same : (g : Bool → ℕ → ℕ → Bool)
      → count (λ (x : Place). g (ltb 0 x.mark) x.entry.link x.entry.sequence) r.places ≡ count (λ (x : Place). g (ltb 0 x.mark) x.entry.link x.entry.sequence) p.places
  pub right : count mismarked r.places ≤ count mismarked p.places

pub mark_alike : (p : Pool) (l k : ℕ) → Alike p (mark_of p l k)
mark_alike p l k = go (mark_of p l k) (mark_touches p l k)
  where
    go : (r : Pool) → Touched p l k (λ (x : Place). record { entry = x.entry; mark = 2 }) r → Alike p r
    go r (absent z s) = rw s (record { size = refl; lost = refl; same = λ g. refl; right = omega arith })
    go r (there at old i d t s) =
        let u : ltb 0 old.mark ≡ true = both_first (ltb 0 old.mark) _ (both_first (of l old) _ t) in
        rw s (record {
          size = length-set p.places at _;
          lost = refl;
          same = λ g. omega (arith, (rw (d, u) at (count_set (λ (x : Place). g (ltb 0 x.mark) x.entry.link x.entry.sequence) p.places at (record { entry = old.entry; mark = 2 }) no_place i)));
          right = omega (arith, count_set mismarked p.places at (record { entry = old.entry; mark = 2 }) no_place i);
        })

unsent_used : (l : ℕ) (x : Place) → (ltb 0 (unsent_for l x).mark ≡ ltb 0 x.mark) × ((unsent_for l x).entry ≡ x.entry)
unsent_used l x = go (of l x) refl
  where
    go : (b : Bool) → of l x ≡ b → (ltb 0 (pick b (record { entry = x.entry; mark = 1 }) x).mark ≡ ltb 0 x.mark) × ((pick b (record { entry = x.entry; mark = 1 }) x).entry ≡ x.entry)
    go true e = (sym (both_first (ltb 0 x.mark) _ e), refl)
    go false e = (refl, refl)

unsent_right : (l : ℕ) (x : Place) → bit (mismarked (unsent_for l x)) ≤ bit (mismarked x)
unsent_right l x = go (of l x)
  where
    go : (b : Bool) → bit (mismarked (pick b (record { entry = x.entry; mark = 1 }) x)) ≤ bit (mismarked x)
    go true = omega arith
    go false = omega arith

pub unmark_alike : (p : Pool) (l : ℕ) → Alike p (unmark_of p l)
unfolding unmark_of
unmark_alike p l =
    record {
      size = length-map p.places (unsent_for l);
      lost = refl;
      same = λ g. count_map (λ (x : Place). g (ltb 0 x.mark) x.entry.link x.entry.sequence) (unsent_for l) p.places
          ∙ count_same (λ (x : Place). g (ltb 0 (unsent_for l x).mark) (unsent_for l x).entry.link (unsent_for l x).entry.sequence)
          (λ (x : Place). g (ltb 0 x.mark) x.entry.link x.entry.sequence) (λ x. rw ((unsent_used l x).0, (unsent_used l x).1)) p.places;
      right = rw (count_map mismarked (unsent_for l) p.places) (count_le (λ (x : Place). mismarked (unsent_for l x)) mismarked (unsent_right l) p.places);
    }

module _ (p r : Pool) (a : Alike p r) where
  pub alike_of : (l : ℕ) → held_in r.places l ≡ held_in p.places l
  alike_of l = a.same (λ u i j. both u (eqb i l))

  pub alike_numbered : (l k : ℕ) → count (fits (Numbered l k)) r.places ≡ count (fits (Numbered l k)) p.places
  alike_numbered l k = a.same (λ u i j. both (both u (eqb i l)) (eqb j k))

  pub alike_newer : (l k : ℕ) → count (newer_than l k) r.places ≡ count (newer_than l k) p.places
  alike_newer l k = a.same (λ u i j. both (both u (eqb i l)) (ltb k j))

  pub alike_keeps : (n : ℕ) (q : ℕ → ℕ) → Inv n p q → Inv n r q
  alike_keeps n q i =
      record {
        size = a.size ∙ i.size;
        links = ap length a.lost ∙ i.links;
        owned = omega (arith, a.same (λ u s j. both u (leb n s)), i.owned);
        once = λ l k. omega (arith, alike_numbered l k, i.once l k);
        fresh = λ l. omega (arith, a.same (λ u s j. both (both u (eqb s l)) (leb (q l) j)), i.fresh l);
        most = λ l. omega (arith, alike_of l, i.most l);
        marked = omega (arith, a.right, i.marked);
        lost = λ l. omega (arith, lost_same p r a.lost l, alike_of l, i.lost l);
        bound = i.bound;
      }
