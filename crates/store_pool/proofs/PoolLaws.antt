-- The pool in place: what a search found stands there, and what each act leaves is what the definitions say.
-- Assumes nothing.
use Rattle.basis.proofs.Std.{◌≡◌, refl, sym, subst, ap, ap₂, ◌∙◌, ℕ, zero, suc, ◌+◌, ◌*◌, ◌<◌, ◌≤◌, arith, List, [], ◌∷◌, map, Bool, true, false, leb, pick, length, get_or, set, get_or-eq_default, lt-ltb, le-ltb, set_out, get_or-set_same, get_or-set_other}
use Rattle.pool.specs.declared.Place.{Place}
use Rattle.pool.specs.declared.Spot.{Spot}
use Rattle.pool.specs.declared.Spot.TheVariants.{At, Nowhere}
use Rattle.pool.specs.declared.Wanted.TheVariants.{Free, Numbered}
use Rattle.entry.specs.declared.Entry.{Entry}
use Rattle.pool.specs.declared.Loser.{Loser}
use Rattle.pool.specs.declared.Loser.TheVariants.{Nobody, Owner}
use Rattle.pool.specs.Places.{no_place, of, fits, lower, older, oldest_from, oldest}
use Rattle.pool.proofs.Part.{part, part_next, part_none, part_all}
use Rattle.pool.specs.Shares.{loser}
use Rattle.pool.specs.Pool.{held_in, free_in, lost_of, more_of, loss_of, room_of, made, with_of, issue_of, unsent_for, freed_for, unmark_of, clear_of, numbered, mark_of, settle_of}
use Rattle.store_words.specs.Words.{word, Stored, Put}
use Rattle.store_site.specs.Rows.{place_from, place_in}
use Rattle.store_site.specs.Layout.{lost_in, places_in, pool_in, pool_words}
use Rattle.store_pool.specs.Pools.{Loss}
use Rattle.store_words.proofs.Elements.{list_at, list_length, list_put}
use Rattle.store_words.proofs.Stores.{stored, nothing, wider, then, below, above}
use Rattle.store_site.proofs.SiteLaws.{lost_same, places_same, places_put, place_at, places_length}

-- what was found in the list p, whose first place has the index i, stands there
data Within (i : ℕ) (p : List Place) : Spot → Type 0 where
  nowhere : Within i p Nowhere
  found : {j : ℕ} {x : Place} (k : ℕ) → j ≡ i + k → k < length p → x ≡ get_or p k no_place → Within i p (At j x)

grown : (i : ℕ) (x : Place) (p : List Place) (s : Spot) → Within (suc i) p s → Within i (x ∷ p) s
grown i x p Nowhere nowhere = nowhere
grown i x p (At j y) (found k a h g) = found (suc k) (omega arith) (omega arith) g

weighed : (i : ℕ) (x : Place) (p : List Place) (s : Spot) → Within (suc i) p s → Within i (x ∷ p) (lower i x s)
weighed i x p Nowhere h = found 0 (omega arith) (omega arith) refl
weighed i x p (At j y) h = by (leb x.entry.sequence y.entry.sequence)
  where
    by : (t : Bool) → Within i (x ∷ p) (pick t (At i x) (At j y))
    by true = found 0 (omega arith) (omega arith) refl
    by false = grown i x p (At j y) h

module _ (f : Place → Bool) where
  within_from : (i : ℕ) (p : List Place) → Within i p (oldest_from f i p)
  unfolding oldest_from
  within_from i [] = nowhere
  within_from i (x ∷ p) = by (f x) (within_from (suc i) p)
    where
      by : (t : Bool) → Within (suc i) p (oldest_from f (suc i) p) → Within i (x ∷ p) (older t i x (oldest_from f (suc i) p))
      by true h = weighed i x p (oldest_from f (suc i) p) h
      by false h = grown i x p (oldest_from f (suc i) p) h

  pub oldest_there : (ws : List ℕ) {i : ℕ} {x : Place} → At i x ≡ oldest f (places_in ws) → (i < 128) × (x ≡ get_or (places_in ws) i no_place)
  oldest_there ws {i} {x} e = by (subst (Within 0 (places_in ws)) (sym e) (within_from 0 (places_in ws)))
    where
      by : Within 0 (places_in ws) (At i x) → (i < 128) × (x ≡ get_or (places_in ws) i no_place)
      by (found k a h g) =
          let s : i ≡ k = omega arith in
          (omega (arith, places_length ws), rw s g)

pub room_there : (ws : List ℕ) (who : Loser) {i : ℕ} {x : Place} → At i x ≡ room_of (places_in ws) who → i < 128
unfolding room_of
room_there ws Nobody e = (oldest_there (fits Free) ws e).0
room_there ws (Owner m) e = (oldest_there (of m) ws e).0

pub lost_at : (ws : List ℕ) (m : ℕ) → m < 8 → word ws m ≡ get_or (lost_in ws) m 0
unfolding lost_in
lost_at ws m h = sym (list_at (word ws) 8 m 0 h)

pub lost_length : (ws : List ℕ) → length (lost_in ws) ≡ 8
unfolding lost_in
lost_length ws = list_length (word ws) 8

pub lost_beyond : (ws : List ℕ) (l : ℕ) → 8 ≤ l → 0 ≡ lost_of (pool_in ws) l
lost_beyond ws l h = sym (get_or-eq_default (lost_in ws) 0 {n = l} (omega (arith, lost_length ws)))

lost_put : (ws : List ℕ) (m n : ℕ) → m < 8 → length ws ≡ pool_words → lost_in (set ws m n) ≡ set (lost_in ws) m n
unfolding lost_in
lost_put ws m n h e =
    list_put (word ws) (word (set ws m n)) 8 m n h
    (λ j g ne. get_or-set_other ws m j n 0 ne) (get_or-set_same ws m n 0 (omega arith))

pub loss_none : (ws : List ℕ) → Loss ws ws Nobody
unfolding loss_of
loss_none ws = record { counts = refl; kept = wider 0 8 (nothing ws 0) (omega arith) (omega arith) }

pub loss_out : (ws : List ℕ) (m : ℕ) → 8 ≤ m → Loss ws ws (Owner m)
unfolding loss_of
loss_out ws m h = record { counts = sym (set_out (lost_in ws) m _ (omega (arith, lost_length ws))); kept = wider 0 8 (nothing ws 0) (omega arith) (omega arith) }

pub loss_one : (ws : List ℕ) (m : ℕ) {n : ℕ} → length ws ≡ pool_words → m < 8 → n ≡ more_of (word ws m) → Loss ws (set ws m n) (Owner m)
unfolding loss_of
loss_one ws m {n} e h q =
    record {
      counts = lost_put ws m n h e ∙ ap (set (lost_in ws) m) (q ∙ ap more_of (lost_at ws m h));
      kept = wider 0 8 (stored ws m n [] (omega arith)) (omega arith) (omega arith);
    }

module _ (ws : List ℕ) (e : Entry) where
  pub issue_none : 8 ≤ e.link → pool_in ws ≡ issue_of 8 (pool_in ws) e
  unfolding issue_of
  issue_none h = rw (le-ltb e.link 8 h)

  module _ (who : Loser) (h : e.link < 8) (w : who ≡ loser 8 (held_in (places_in ws)) (free_in (places_in ws)) e.link) where
    pub issue_full : Nowhere ≡ room_of (places_in ws) who → pool_in ws ≡ issue_of 8 (pool_in ws) e
    unfolding issue_of with_of
    issue_full r = rw (lt-ltb e.link 8 h, ← w, ← r) refl

    pub issue_one : (us vs : List ℕ) {i : ℕ} {x : Place} → At i x ≡ room_of (places_in ws) who → Put place_in 4 ws us (8 + 4 * i) (made e) → Loss us vs who → pool_in vs ≡ issue_of 8 (pool_in ws) e
    unfolding issue_of with_of
    issue_one us vs {i} r p l =
        let places : places_in vs ≡ set (places_in ws) i (made e) = places_same us vs (above 8 512 l.kept (omega arith)) ∙ places_put ws us i (made e) (room_there ws who r) p in
        let lost : lost_in vs ≡ loss_of (lost_in ws) who = l.counts ∙ ap (λ (k : List ℕ). loss_of k who) (lost_same ws us (below 0 8 p.kept (omega arith))) in
        rw (lt-ltb e.link 8 h, ← w, ← r, places, lost) refl

-- what stands behind the part that was changed
pub part_rest : {A : Type 0} (f : A → A) (i j : ℕ) (p : List A) (d : A) → i ≤ j → get_or (part f i p) j d ≡ get_or p j d
unfolding part
part_rest f zero j p d h = refl
part_rest f (suc i) j [] d h = refl
part_rest f (suc i) zero (x ∷ p) d h = absurd (omega arith)
part_rest f (suc i) (suc j) (x ∷ p) d h = part_rest f i j p d (omega arith)

marked : (ws : List ℕ) (i n : ℕ) → i + 3 < length ws → place_in (set ws (i + 3) n) i ≡ record { entry = (place_in ws i).entry; mark = n }
unfolding place_from
marked ws i n h =
    rw (
      get_or-set_other ws (i + 3) i n 0 (λ q. omega (arith, q)),
      get_or-set_other ws (i + 3) (i + 1) n 0 (λ q. omega (arith, q)),
      get_or-set_other ws (i + 3) (i + 2) n 0 (λ q. omega (arith, q)),
      get_or-set_same ws (i + 3) n 0 h,
    )

-- a record numbered q of link l, found or not
module _ (ws : List ℕ) (l q : ℕ) where
  pub mark_none : Nowhere ≡ numbered (pool_in ws) l q → pool_in ws ≡ mark_of (pool_in ws) l q
  unfolding mark_of with_of
  mark_none r = rw (← r) refl

  pub settle_none : Nowhere ≡ numbered (pool_in ws) l q → pool_in ws ≡ settle_of (pool_in ws) l q
  unfolding settle_of with_of
  settle_none r = rw (← r) refl

  module _ {i : ℕ} {x : Place} (r : At i x ≡ numbered (pool_in ws) l q) where
    pub index_within : i < 128
    index_within = (oldest_there (fits (Numbered l q)) ws r).0

    pub mark_one : length ws ≡ pool_words → pool_in (set ws (8 + 4 * i + 3) 2) ≡ mark_of (pool_in ws) l q
    unfolding mark_of with_of
    mark_one n =
        let h : i < 128 = index_within in
        let vs = set ws (8 + 4 * i + 3) 2 in
        let y : Place = record { entry = x.entry; mark = 2 } in
        let here : place_in vs (8 + 4 * i) ≡ y =
        marked ws (8 + 4 * i) 2 (omega arith) ∙ ap (λ (z : Place). record { entry = z.entry; mark = 2 }) (place_at ws i h ∙ sym (oldest_there (fits (Numbered l q)) ws r).1) in
        let kept = stored ws (8 + 4 * i + 3) 2 [] (omega arith) in
        let put : Put place_in 4 ws vs (8 + 4 * i) y = record { there = here; kept = wider (8 + 4 * i) 4 kept (omega arith) (omega arith) } in
        rw (← r, places_put ws vs i y h put, lost_same ws vs (below 0 8 kept (omega arith))) refl

    pub settle_one : (vs : List ℕ) → Put place_in 4 ws vs (8 + 4 * i) no_place → pool_in vs ≡ settle_of (pool_in ws) l q
    unfolding settle_of with_of
    settle_one vs p = rw (← r, places_put ws vs i no_place index_within p, lost_same ws vs (below 0 8 p.kept (omega arith))) refl

module _ (ws : List ℕ) (k l : ℕ) (g : k < 128) where
  pub unmark_other : of l (get_or (places_in ws) k no_place) ≡ false → Put place_in 4 ws ws (8 + 4 * k) (unsent_for l (get_or (places_in ws) k no_place))
  unmark_other e = record { there = rw e (place_at ws k g); kept = wider (8 + 4 * k) 4 (nothing ws (8 + 4 * k)) (omega arith) (omega arith) }

  pub unmark_one : length ws ≡ pool_words → of l (get_or (places_in ws) k no_place) ≡ true → Put place_in 4 ws (set ws (8 + 4 * k + 3) 1) (8 + 4 * k) (unsent_for l (get_or (places_in ws) k no_place))
  unmark_one n e =
      record {
        there = rw (e, ← place_at ws k g) (marked ws (8 + 4 * k) 1 (omega arith));
        kept = wider (8 + 4 * k) 4 (stored ws (8 + 4 * k + 3) 1 [] (omega arith)) (omega arith) (omega arith);
      }

module _ (ws : List ℕ) (k l : ℕ) (g : k < 128) where
  pub free_other : of l (get_or (places_in ws) k no_place) ≡ false → Put place_in 4 ws ws (8 + 4 * k) (freed_for l (get_or (places_in ws) k no_place))
  free_other e = record { there = rw e (place_at ws k g); kept = wider (8 + 4 * k) 4 (nothing ws (8 + 4 * k)) (omega arith) (omega arith) }

  pub free_one : (vs : List ℕ) → of l (get_or (places_in ws) k no_place) ≡ true → Put place_in 4 ws vs (8 + 4 * k) no_place
      → Put place_in 4 ws vs (8 + 4 * k) (freed_for l (get_or (places_in ws) k no_place))
  free_one vs e p = rw e p

-- the first i places are changed by f
module _ (f : Place → Place) where
  pub record Upto (ws vs : List ℕ) (i : ℕ) : Type 0 where
    pub places : places_in vs ≡ part f i (places_in ws)
    pub kept : Stored ws vs 8 512

  pub upto_none : (ws : List ℕ) → Upto ws ws 0
  upto_none ws = record { places = sym (part_none f (places_in ws)); kept = wider 8 512 (nothing ws 8) (omega arith) (omega arith) }

  pub upto_next : (ws vs us : List ℕ) (i : ℕ) → i < 128 → Upto ws vs i → Put place_in 4 vs us (8 + 4 * i) (f (get_or (places_in vs) i no_place)) → Upto ws us (i + 1)
  upto_next ws vs us i h u p =
      let p0 = places_in ws in
      let q : get_or (places_in vs) i no_place ≡ get_or p0 i no_place = ap (λ (x : List Place). get_or x i no_place) u.places ∙ part_rest f i i p0 no_place (omega arith) in
      record {
        places =
            places_put vs us i (f (get_or (places_in vs) i no_place)) h p
            ∙ ap₂ (λ (x : List Place) (y : Place). set x i (f y)) u.places q
            ∙ part_next f i p0 no_place (omega (arith, places_length ws));
        kept = then u.kept (wider 8 512 p.kept (omega arith) (omega arith));
      }

  upto_places : (ws vs : List ℕ) (i : ℕ) → 128 ≤ i → Upto ws vs i → places_in vs ≡ map f (places_in ws)
  upto_places ws vs i h u = u.places ∙ part_all f i (places_in ws) (omega (arith, places_length ws))

  upto_lost : (ws vs : List ℕ) (i : ℕ) → Upto ws vs i → lost_in vs ≡ lost_in ws
  upto_lost ws vs i u = lost_same ws vs (below 0 8 u.kept (omega arith))

pub unmarked : (ws vs : List ℕ) (l i : ℕ) → 128 ≤ i → Upto (unsent_for l) ws vs i → pool_in vs ≡ unmark_of (pool_in ws) l
unfolding unmark_of
unmarked ws vs l i h u = rw (upto_places (unsent_for l) ws vs i h u, upto_lost (unsent_for l) ws vs i u)

pub cleared_out : (ws vs : List ℕ) (l i : ℕ) → 128 ≤ i → 8 ≤ l → Upto (freed_for l) ws vs i → pool_in vs ≡ clear_of (pool_in ws) l
unfolding clear_of
cleared_out ws vs l i h g u =
    rw (upto_places (freed_for l) ws vs i h u, upto_lost (freed_for l) ws vs i u, set_out (lost_in ws) l 0 (omega (arith, lost_length ws)))

pub cleared : (ws vs : List ℕ) (l i : ℕ) → 128 ≤ i → l < 8 → length vs ≡ pool_words → Upto (freed_for l) ws vs i → pool_in (set vs l 0) ≡ clear_of (pool_in ws) l
unfolding clear_of
cleared ws vs l i h g n u =
    rw (
      places_same vs (set vs l 0) (above 8 512 (stored vs l 0 [] (omega arith)) (omega arith)),
      lost_put vs l 0 g n,
      upto_places (freed_for l) ws vs i h u,
      upto_lost (freed_for l) ws vs i u,
    )
