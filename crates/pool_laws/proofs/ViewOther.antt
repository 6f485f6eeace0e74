-- A settle, a mark and an unmark on the view.
-- Assumes nothing.
use Rattle.basis.proofs.Std.{ℕ, suc, zero, ◌+◌, ◌≤◌, ◌<◌, ◌≡◌, refl, sym, ◌∙◌, ap, subst, List, [], ◌∷◌, map, map-id, Bool, true, false, length, get_or, set, ltb, eqb, arith, eqb-true, eqb-false, eq-eqb, ne_eqb, pick, both, bit, count, not_both, both_first, both_second}
use Rattle.pool.specs.declared.Place.{Place}
use Rattle.pool.specs.declared.Pool.{Pool}
use Rattle.pool.specs.declared.Wanted.TheVariants.{Numbered}
use Rattle.pool.specs.Places.{no_place, of, fits}
use Rattle.pool.specs.Pool.{settle_of, mark_of, unsent_for, unmark_of}
use Rattle.pool_laws.specs.View.{insert, insert_if, records_in, records, without, sent_if, unsent}
use Rattle.pool_laws.proofs.Counts.{bit_true, count_pos}
use Rattle.pool_laws.proofs.Inv.{of_used, of_link}
use Rattle.pool_laws.proofs.Other.{Touched, settle_touches, settle_gone, mark_touches}
use Rattle.pool_laws.proofs.Other.Touched.{absent, there}
use Rattle.pool_laws.proofs.Insert.{number, without_insert, without_none}
use Rattle.pool_laws.proofs.Records.{records_count, records_set, records_map}

-- a record of one link is of no other
pub other_link : (l m : ℕ) (x : Place) → of l x ≡ true → eqb l m ≡ false → of m x ≡ false
other_link l m x o d = rw (of_used l x o) (ne_eqb _ m (λ s. eqb-false l m d (sym (of_link l x o) ∙ s)))

same_link : (l m : ℕ) (x : Place) → of m x ≡ true → of l x ≡ eqb l m
same_link l m x o = rw (of_used m x o, of_link m x o) (swap (eqb m l) refl)
  where
    swap : (t : Bool) → eqb m l ≡ t → t ≡ eqb l m
    swap true e = sym (eq-eqb l m (sym (eqb-true m l e)))
    swap false e = sym (ne_eqb l m (λ s. eqb-false m l e (sym s)))

-- ---- settle
module _ (p : Pool) (l k : ℕ) (once : (m j : ℕ) → count (fits (Numbered m j)) p.places ≤ 1) where
  numbered_none : (q : List Place) (m : ℕ) → count (fits (Numbered m k)) q ≡ 0 → without k (records_in q m) ≡ records_in q m
  numbered_none q m z = without_none k (records_in q m) (records_count (λ (y : Place). eqb (number y) k) q m ∙ z)

  pub settle_view : (m : ℕ) → records (settle_of p l k) m ≡ pick (eqb l m) (without k (records p m)) (records p m)
  settle_view m = go (settle_of p l k) (settle_touches p l k) (settle_gone p l k (once l k)) (eqb l m) refl
    where
      go : (r : Pool) → Touched p l k (λ (x : Place). no_place) r → count (fits (Numbered l k)) r.places ≡ 0
          → (t : Bool) → eqb l m ≡ t → records r m ≡ pick t (without k (records p m)) (records p m)
      go r (absent z s) c false d = ap (λ (x : Pool). records x m) s
      go r (absent z s) c true d =
          let e : l ≡ m = eqb-true l m d in
          ap (λ (x : Pool). records x m) s ∙ sym (numbered_none p.places m (subst (λ (j : ℕ). count (fits (Numbered j k)) p.places ≡ 0) e z))
      go r (there at old i g o s) c t d = by t d
        where
          key : insert_if (of m old) old (records_in (set p.places at no_place) m) ≡ records_in p.places m
          key =
              subst (λ (x : Place). insert_if (of m x) x (records_in (set p.places at no_place) m) ≡ records_in p.places m) g
              (records_set m no_place p.places at i (λ j. once m j) (λ z. not_both z refl))

          now : records r m ≡ records_in (set p.places at no_place) m
          now = ap (λ (x : Pool). records x m) s

          by : (t : Bool) → eqb l m ≡ t → records r m ≡ pick t (without k (records p m)) (records p m)
          by false d =
              now ∙ subst (λ (b : Bool). insert_if b old (records_in (set p.places at no_place) m) ≡ records_in p.places m)
              (other_link l m old (both_first (of l old) _ o) d) key
          by true d =
              let e : l ≡ m = eqb-true l m d in
              let a : of m old ≡ true = subst (λ (j : ℕ). of j old ≡ true) e (both_first (of l old) _ o) in
              let n : number old ≡ k = eqb-true (number old) k (both_second (of l old) (eqb (number old) k) o) in
              let f : insert old (records_in (set p.places at no_place) m) ≡ records_in p.places m =
              subst (λ (b : Bool). insert_if b old (records_in (set p.places at no_place) m) ≡ records_in p.places m) a key in
              let z : count (fits (Numbered m k)) (set p.places at no_place) ≡ 0 =
              subst (λ (j : ℕ). count (fits (Numbered j k)) (set p.places at no_place) ≡ 0) e (sym (ap (λ (x : Pool). count (fits (Numbered l k)) x.places) s) ∙ c) in
              now ∙ sym (numbered_none (set p.places at no_place) m z) ∙ sym (without_insert old k n (records_in (set p.places at no_place) m)) ∙ ap (without k) f

-- ---- a change at the one place that passes is a map
map_none : (f : Place → Bool) (h : Place → Place) (q : List Place) → count f q ≡ 0 → map (λ (x : Place). pick (f x) (h x) x) q ≡ q
map_none f h [] z = refl
map_none f h (x ∷ q) z = go (f x) z (map_none f h q)
  where
    go : (t : Bool) → bit t + count f q ≡ 0 → (count f q ≡ 0 → map (λ (y : Place). pick (f y) (h y) y) q ≡ q) → pick t (h x) x ∷ map (λ (y : Place). pick (f y) (h y) y) q ≡ x ∷ q
    go true e r = absurd (omega arith)
    go false e r = ap (λ (s : List Place). x ∷ s) (r (omega arith))

set_map : (f : Place → Bool) (h : Place → Place) (q : List Place) (i : ℕ) → i < length q → f (get_or q i no_place) ≡ true → count f q ≤ 1
    → set q i (h (get_or q i no_place)) ≡ map (λ (x : Place). pick (f x) (h x) x) q
set_map f h [] i k t c = absurd (omega arith)
set_map f h (x ∷ q) zero k t c = rw t (ap (λ (s : List Place). h x ∷ s) (sym (map_none f h q (omega (arith, bit_true (f x) t)))))
set_map f h (x ∷ q) (suc i) k t c = go (f x) c (set_map f h q i (omega arith) t)
  where
    go : (b : Bool) → bit b + count f q ≤ 1 → (count f q ≤ 1 → set q i (h (get_or q i no_place)) ≡ map (λ (y : Place). pick (f y) (h y) y) q)
        → x ∷ set q i (h (get_or q i no_place)) ≡ pick b (h x) x ∷ map (λ (y : Place). pick (f y) (h y) y) q
    go true e r = absurd (omega (arith, count_pos f q i no_place (omega arith) t))
    go false e r = ap (λ (s : List Place). x ∷ s) (r (omega arith))

abbrev as_sent : Place → Place
as_sent x = record { entry = x.entry; mark = 2 }

abbrev mark_all : ℕ → ℕ → Place → Place
mark_all l k x = pick (fits (Numbered l k) x) (as_sent x) x

mark_is_map : (p : Pool) (l k : ℕ) → count (fits (Numbered l k)) p.places ≤ 1 → (mark_of p l k).places ≡ map (mark_all l k) p.places
mark_is_map p l k c = go (mark_of p l k) (mark_touches p l k)
  where
    go : (r : Pool) → Touched p l k as_sent r → r.places ≡ map (mark_all l k) p.places
    go r (absent z s) = ap (λ (x : Pool). x.places) s ∙ sym (map_none (fits (Numbered l k)) as_sent p.places z)
    go r (there at old i g o s) =
        ap (λ (x : Pool). x.places) s ∙ ap (λ (x : Place). set p.places at (as_sent x)) (sym g)
        ∙ set_map (fits (Numbered l k)) as_sent p.places at i (subst (λ (x : Place). fits (Numbered l k) x ≡ true) (sym g) o) c

pick_number : (t : Bool) (x y : Place) → number y ≡ number x → number (pick t y x) ≡ number x
pick_number true x y e = e
pick_number false x y e = refl

-- a place with another mark is whose it was, where it was used
pick_of : (m : ℕ) (t : Bool) (x : Place) (k : ℕ) → ltb 0 k ≡ true → (t ≡ true → ltb 0 x.mark ≡ true) → of m (pick t (record { entry = x.entry; mark = k }) x) ≡ of m x
pick_of m true x k z u = rw (u refl, z)
pick_of m false x k z u = refl

mark_on : (l k m : ℕ) (x : Place) (t : Bool) → eqb l m ≡ t → of m x ≡ true → mark_all l k x ≡ pick t (sent_if k x) x
mark_on l k m x true d o = ap (λ (b : Bool). pick (both b (eqb (number x) k)) (as_sent x) x) (same_link l m x o ∙ d)
mark_on l k m x false d o = ap (λ (b : Bool). pick (both b (eqb (number x) k)) (as_sent x) x) (same_link l m x o ∙ d)

unmark_on : (l m : ℕ) (x : Place) (t : Bool) → eqb l m ≡ t → of m x ≡ true → unsent_for l x ≡ pick t (unsent x) x
unmark_on l m x t d o = ap (λ (b : Bool). pick b (unsent x) x) (same_link l m x o ∙ d)

either : (t : Bool) (h : Place → Place) (q : List Place) → map (λ (x : Place). pick t (h x) x) q ≡ pick t (map h q) q
either true h q = refl
either false h q = map-id q

pub mark_view : (p : Pool) (l k m : ℕ) → count (fits (Numbered l k)) p.places ≤ 1 → records (mark_of p l k) m ≡ pick (eqb l m) (map (sent_if k) (records p m)) (records p m)
mark_view p l k m c =
    ap (λ (q : List Place). records_in q m) (mark_is_map p l k c)
    ∙ records_map m (mark_all l k) (λ (x : Place). pick (eqb l m) (sent_if k x) x)
    (λ x. pick_of m (fits (Numbered l k) x) x 2 refl (λ t. of_used l x (both_first (of l x) _ t)))
    (λ x. pick_number (eqb l m) x (sent_if k x) (pick_number (eqb (number x) k) x (as_sent x) refl))
    (λ x o. mark_on l k m x (eqb l m) refl o) p.places
    ∙ either (eqb l m) (sent_if k) (records_in p.places m)

pub unmark_view : (p : Pool) (l m : ℕ) → records (unmark_of p l) m ≡ pick (eqb l m) (map unsent (records p m)) (records p m)
unfolding unmark_of
unmark_view p l m =
    records_map m (unsent_for l) (λ (x : Place). pick (eqb l m) (unsent x) x)
    (λ x. pick_of m (of l x) x 1 refl (λ t. of_used l x t))
    (λ x. pick_number (eqb l m) x (unsent x) refl)
    (λ x o. unmark_on l m x (eqb l m) refl o) p.places
    ∙ either (eqb l m) unsent (records_in p.places m)
