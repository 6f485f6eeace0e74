-- What holds of every held record after an act of the pool, and after a list of issues.
-- Assumes nothing.
use Rattle.basis.proofs.Std.{ℕ, suc, zero, ◌%◌, ◌<◌, ◌≡◌, refl, sym, subst, List, [], ◌∷◌, map, Bool, true, false, get_or, set, replicate, ltb, lit<, mod-lt, eq-eqb, pick, not_both, both_first, both_of}
use Rattle.entry.specs.declared.Entry.{Entry}
use Rattle.pool.specs.declared.Place.{Place}
use Rattle.pool.specs.declared.Pool.{Pool}
use Rattle.pool.specs.declared.Spot.{Spot}
use Rattle.pool.specs.declared.Spot.TheVariants.{At, Nowhere}
use Rattle.pool.specs.declared.Loser.{Loser}
use Rattle.pool.specs.Places.{no_place, of}
use Rattle.pool.specs.Shares.{loser}
use Rattle.pool.specs.Pool.{empty_of, held_in, free_in, made, loss_of, room_of, with_of, issue_of, settle_of, mark_of, unsent_for, unmark_of, freed_for, clear_of}
use Rattle.pool_laws.proofs.Other.{Touched, settle_touches, mark_touches}
use Rattle.pool_laws.proofs.Other.Touched.{absent, there}
use Rattle.pool_laws.proofs.Inv.{of_used}
use Rattle.pool_laws.specs.declared.Batch.{Batch}
use Rattle.pool_laws.specs.Batch.{renumbered, under, added, added_all}
use Rattle.call_laws.specs.Sound.{EachHeld, Each}

module _ (P : Entry → Type 0) where
  abbrev At-place : Place → Type 0
  At-place x = ltb 0 x.mark ≡ true → P x.entry

  held_set : (p : List Place) (i : ℕ) (x : Place) → At-place x → EachHeld P p → EachHeld P (set p i x)
  held_set [] i x h a = a
  held_set (y ∷ p) zero x h (b, a) = (h, a)
  held_set (y ∷ p) (suc i) x h (b, a) = (b, held_set p i x h a)

  held_map : (g : Place → Place) → ((x : Place) → At-place x → At-place (g x)) → (p : List Place) → EachHeld P p → EachHeld P (map g p)
  held_map g h [] a = a
  held_map g h (x ∷ p) (b, a) = (h x b, held_map g h p a)

  pub held_at : (p : List Place) (i : ℕ) → EachHeld P p → At-place (get_or p i no_place)
  held_at [] i a u = not_both u refl
  held_at (x ∷ p) zero (b, a) u = b u
  held_at (x ∷ p) (suc i) (b, a) u = held_at p i a u

  pub held_all : ((e : Entry) → P e) → (p : List Place) → EachHeld P p
  held_all f [] = tt
  held_all f (x ∷ p) = ((λ u. f x.entry), held_all f p)

  held_free : (k : ℕ) → EachHeld P (replicate k no_place)
  held_free zero = tt
  held_free (suc k) = ((λ u. not_both u refl), held_free k)

  pub held_empty : (n : ℕ) → EachHeld P (empty_of n).places
  unfolding empty_of
  held_empty n = held_free 128

  held_with : (p : Pool) (s : Spot) (x : Place) (lost : List ℕ) → At-place x → EachHeld P p.places → EachHeld P (with_of p s x lost).places
  unfolding with_of
  held_with p (At i y) x lost h a = held_set p.places i x h a
  held_with p Nowhere x lost h a = a

  held_issue : (n : ℕ) (p : Pool) (e : Entry) → P e → EachHeld P p.places → EachHeld P (issue_of n p e).places
  unfolding issue_of
  held_issue n p e h a = go (ltb e.link n) (loser n (held_in p.places) (free_in p.places) e.link)
    where
      go : (t : Bool) (who : Loser) → EachHeld P (pick t (with_of p (room_of p.places who) (made e) (loss_of p.lost who)) p).places
      go true who = held_with p (room_of p.places who) (made e) (loss_of p.lost who) (λ u. h) a
      go false who = a

  held_touched : (p r : Pool) (l k : ℕ) (new : Place → Place) → ((x : Place) → ltb 0 x.mark ≡ true → At-place x → At-place (new x)) → Touched p l k new r
      → EachHeld P p.places → EachHeld P r.places
  held_touched p r l k new h (absent z s) a = subst (λ (x : Pool). EachHeld P x.places) (sym s) a
  held_touched p r l k new h (there at old i g t s) a =
      subst (λ (x : Pool). EachHeld P x.places) (sym s)
      (held_set p.places at (new old) (h old (of_used l old (both_first (of l old) _ t)) (subst At-place g (held_at p.places at a))) a)

  pub held_settle : (p : Pool) (l k : ℕ) → EachHeld P p.places → EachHeld P (settle_of p l k).places
  held_settle p l k a = held_touched p (settle_of p l k) l k (λ (x : Place). no_place) (λ x t b u. not_both u refl) (settle_touches p l k) a

  pub held_mark : (p : Pool) (l k : ℕ) → EachHeld P p.places → EachHeld P (mark_of p l k).places
  held_mark p l k a = held_touched p (mark_of p l k) l k (λ (x : Place). record { entry = x.entry; mark = 2 }) (λ x t b u. b t) (mark_touches p l k) a

  unsent_place : (l : ℕ) (x : Place) → At-place x → At-place (unsent_for l x)
  unsent_place l x h = go (of l x) refl
    where
      go : (t : Bool) → of l x ≡ t → At-place (pick t (record { entry = x.entry; mark = 1 }) x)
      go true o = λ u. h (of_used l x o)
      go false o = h

  pub held_unmark : (p : Pool) (l : ℕ) → EachHeld P p.places → EachHeld P (unmark_of p l).places
  unfolding unmark_of
  held_unmark p l a = held_map (unsent_for l) (unsent_place l) p.places a

  -- an owner begins anew: none of its records is held, and of the others it still holds
  pub held_clear : (p : Pool) (o : ℕ) → EachHeld (λ (e : Entry). (e.link ≡ o → ⊥) → P e) p.places → EachHeld P (clear_of p o).places
  unfolding clear_of
  held_clear p o a = go p.places a
    where
      place : (x : Place) → (ltb 0 x.mark ≡ true → (x.entry.link ≡ o → ⊥) → P x.entry) → (t : Bool) → of o x ≡ t → At-place (pick t no_place x)
      place x h true e = λ u. not_both u refl
      place x h false e = λ u. h u (λ s. not_both (both_of u (eq-eqb x.entry.link o s)) e)

      go : (xs : List Place) → EachHeld (λ (e : Entry). (e.link ≡ o → ⊥) → P e) xs → EachHeld P (map (freed_for o) xs)
      go [] b = b
      go (x ∷ xs) (h, b) = (place x h (of o x) refl, go xs b)

  -- each is issued under a number of 31 bits
  pub held_added : (n : ℕ) (b : Batch) (es : List Entry) → Each (λ (e : Entry). (q : ℕ) → q < 2147483648 → P (renumbered e q)) es
      → EachHeld P b.pool.places → EachHeld P (added_all n b es).pool.places
  unfolding added
  held_added n b [] h a = a
  held_added n b (e ∷ es) (g, h) a =
      held_added n (added n b e) es h (held_issue n b.pool (under e b.next) (g (b.next % 2147483648) (mod-lt b.next (lit< tt))) a)

-- what follows from it holds too
pub held_so : (P Q : Entry → Type 0) → ((e : Entry) → P e → Q e) → (p : List Place) → EachHeld P p → EachHeld Q p
held_so P Q f [] a = a
held_so P Q f (x ∷ p) (b, a) = ((λ u. f x.entry (b u)), held_so P Q f p a)
