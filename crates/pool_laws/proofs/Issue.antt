-- What an issue does to every count, to the invariant, and to a record that was held.
-- Assumes nothing.
use Rattle.basis.proofs.Std.{ℕ, ◌+◌, ◌*◌, ◌≤◌, ◌<◌, ◌≡◌, refl, sym, ◌∙◌, ap, List, Bool, true, false, ◌⊎◌, inl, inr, length, get_or, set, length-set, get_or-set_same, get_or-set_other, ltb, leb, eqb, arith, ltb-true, eqb-true, lt-ltb, le-leb, lt-leb, eq-eqb, ne_eqb, pick, both, bit, count, lt_or_ge, eq_or_ne, not_both, both_first, both_second, both_of}
use Rattle.entry.specs.declared.Entry.{Entry}
use Rattle.pool.specs.declared.Place.{Place}
use Rattle.pool.specs.declared.Pool.{Pool}
use Rattle.pool.specs.declared.Wanted.TheVariants.{Older, Numbered}
use Rattle.pool.specs.declared.Loser.{Loser}
use Rattle.pool.specs.declared.Loser.TheVariants.{Nobody, Owner}
use Rattle.pool.specs.Places.{no_place, of, fits}
use Rattle.pool.specs.Pool.{held_in, lost_of, made, more_of, loss_of, issue_of}
use Rattle.pool_laws.specs.Acts.{renewed, newer_than}
use Rattle.pool_laws.proofs.Counts.{bit_true, bit_false, bit_le, bit_lt, bit_ge, bit_eq, bit_ne, bit_and, bit_and_no, count_set, count_at, count_pos}
use Rattle.pool_laws.proofs.Oldest.{below_more}
use Rattle.pool_laws.proofs.Fullest.{outside}
use Rattle.pool_laws.proofs.Chosen.{Eldest, Why, Issued, issued}
use Rattle.pool_laws.proofs.Chosen.Why.{vacant, own, steal}
use Rattle.pool_laws.proofs.Inv.{Inv, from, mismarked, of_used, of_link, around, from_less, numbered_from, numbered_older}

bool_or : (b : Bool) → (b ≡ true) ⊎ (b ≡ false)
bool_or true = inl refl
bool_or false = inr refl

loss_length : (lost : List ℕ) (who : Loser) → length (loss_of lost who) ≡ length lost
unfolding loss_of
loss_length lost Nobody = refl
loss_length lost (Owner m) = length-set lost m _

loss_own : (lost : List ℕ) (m : ℕ) → m < length lost → get_or lost m 0 < 18446744073709551615 → get_or (loss_of lost (Owner m)) m 0 ≡ get_or lost m 0 + 1
unfolding loss_of
loss_own lost m h k = get_or-set_same lost m (more_of (get_or lost m 0)) 0 h ∙ rw (lt-ltb _ 18446744073709551615 k)

loss_other : (lost : List ℕ) (m l : ℕ) → (l ≡ m → ⊥) → get_or (loss_of lost (Owner m)) l 0 ≡ get_or lost l 0
unfolding loss_of
loss_other lost m l d = get_or-set_other lost m l _ 0 d

loss_none : (lost : List ℕ) (l : ℕ) → get_or (loss_of lost Nobody) l 0 ≡ get_or lost l 0
unfolding loss_of
loss_none lost l = refl

numbered_is : (m k : ℕ) (x : Place) → fits (Numbered m k) x ≡ true → x.entry.sequence ≡ k
numbered_is m k x e = eqb-true _ k (both_second (of m x) (eqb x.entry.sequence k) e)

newer_is : (m k : ℕ) (x : Place) → newer_than m k x ≡ true → k < x.entry.sequence
newer_is m k x e = ltb-true k _ (both_second (of m x) (ltb k x.entry.sequence) e)

bit_no_second : (a b : Bool) → b ≡ false → bit (both a b) ≡ 0
bit_no_second true b e = bit_false b e
bit_no_second false b e = refl

pub free_not : (l : ℕ) (x : Place) → x.mark ≡ 0 → of l x ≡ false
free_not l x e = rw e

module _ (n : ℕ) (small : 16 * n ≤ 128) (p : Pool) (q : ℕ → ℕ) (inv : Inv n p q) (e : Entry) (mine : e.link < n) (rises : q e.link ≤ e.sequence) (fits32 : e.sequence < 2147483648) where
  abbrev pub it : Issued n p e
  it = issued n p e small mine inv.size inv.owned

  abbrev pub after : List Place
  after = set p.places it.at (made e)

  pub places_after : (issue_of n p e).places ≡ after
  places_after = ap (λ (r : Pool). r.places) it.is

  pub lost_after : (l : ℕ) → lost_of (issue_of n p e) l ≡ get_or (loss_of p.lost it.who) l 0
  lost_after l = ap (λ (r : Pool). get_or r.lost l 0) it.is

  -- what a count becomes
  pub change : (g : Place → Bool) → count g after + bit (g it.old) ≡ count g p.places + bit (g (made e))
  change g = rw it.stands at (count_set g p.places it.at (made e) no_place it.inside)

  -- the record that stood there has a number below its owner's next
  pub old_below : (m : ℕ) → of m it.old ≡ true → it.old.entry.sequence < q m
  old_below m o = go (lt_or_ge it.old.entry.sequence (q m))
    where
      go : (it.old.entry.sequence < q m) ⊎ (q m ≤ it.old.entry.sequence) → it.old.entry.sequence < q m
      go (inl a) = a
      go (inr a) =
          let t : from m (q m) it.old ≡ true = both_of o (le-leb (q m) _ a) in
          absurd (omega (arith, count_pos (from m (q m)) p.places it.at no_place it.inside (rw it.stands t), inv.fresh m))

  new_mine : of e.link (made e) ≡ true
  new_mine = eq-eqb e.link e.link refl

  new_newer : (k : ℕ) → k < q e.link → bit (newer_than e.link k (made e)) ≡ 1
  new_newer k h = omega (arith, bit_and (of e.link (made e)) (ltb k e.sequence) new_mine, bit_lt k e.sequence (omega arith))

  -- what is lost is counted for its owner, and for no other
  pub loses : (l : ℕ) → get_or (loss_of p.lost it.who) l 0 ≡ lost_of p l + bit (of l it.old)
  loses l = go it.who it.why
    where
      by_owner : (m : ℕ) → m < n → of m it.old ≡ true → (l ≡ m) ⊎ (l ≡ m → ⊥) → get_or (loss_of p.lost (Owner m)) l 0 ≡ lost_of p l + bit (of l it.old)
      by_owner m k o (inl d) = rw d (omega (arith, loss_own p.lost m (omega (arith, inv.links)) (omega (arith, inv.lost m, inv.bound m)), bit_true _ o))
      by_owner m k o (inr d) =
          let f : of l it.old ≡ false = rw (of_used m it.old o) (ne_eqb _ l (λ s. d (sym s ∙ of_link m it.old o))) in
          omega (arith, loss_other p.lost m l d, bit_false _ f)

      go : (who : Loser) → Why n e.link p.places it.old who → get_or (loss_of p.lost who) l 0 ≡ lost_of p l + bit (of l it.old)
      go Nobody (vacant a b) = omega (arith, loss_none p.lost l, bit_false _ (free_not l it.old b))
      go (Owner m) (own a v) = by_owner m mine v.mine (eq_or_ne l m)
      go (Owner m) (steal x a b c d v) = by_owner m b v.mine (eq_or_ne l m)

  -- every record of the link whose oldest stood there is as new
  all_newer : (m k : ℕ) → Eldest m p.places it.old → k ≤ it.old.entry.sequence → held_in p.places m ≡ count (fits (Numbered m k)) p.places + count (newer_than m k) p.places
  all_newer m k v h = omega (arith, around m k p.places, below_more (of m) k it.old.entry.sequence h p.places, v.none_older)

  -- a record that was held still is; or it was its link's oldest, and 16 newer ones of the link are held
  left : (m k : ℕ) → (it.old.entry.sequence ≡ k) → (who : Loser) → Why n e.link p.places it.old who → of m it.old ≡ true
      → (count (fits (Older m k)) p.places ≡ 0) × (16 ≤ count (newer_than m k) after)
  left m k s Nobody (vacant a b) o = not_both o (free_not m it.old b)
  left m k s (Owner j) (own a v) o =
      let same : m ≡ j = sym (of_link m it.old o) ∙ of_link j it.old v.mine in (
        rw (same, ← s) v.none_older,
        rw same (omega (
          arith,
          change (newer_than j k),
          new_newer k (omega (arith, old_below j v.mine)),
          bit_and (of j it.old) (ltb k it.old.entry.sequence) v.mine,
          bit_ge k it.old.entry.sequence (omega arith),
          all_newer j k v (omega arith),
          inv.once j k,
        )),
      )
  left m k s (Owner j) (steal x a b c d v) o =
      let same : m ≡ j = sym (of_link m it.old o) ∙ of_link j it.old v.mine in (
        rw (same, ← s) v.none_older,
        rw same (omega (
          arith,
          change (newer_than j k),
          bit_and (of j it.old) (ltb k it.old.entry.sequence) v.mine,
          bit_ge k it.old.entry.sequence (omega arith),
          all_newer j k v (omega arith),
          inv.once j k,
        )),
      )

  pub stays : (m k : ℕ) → 0 < count (fits (Numbered m k)) p.places
      → (0 < count (fits (Numbered m k)) after) ⊎ ((count (fits (Older m k)) p.places ≡ 0) × (16 ≤ count (newer_than m k) after))
  stays m k h = go (bool_or (fits (Numbered m k) it.old))
    where
      go : (fits (Numbered m k) it.old ≡ true) ⊎ (fits (Numbered m k) it.old ≡ false)
          → (0 < count (fits (Numbered m k)) after) ⊎ ((count (fits (Older m k)) p.places ≡ 0) × (16 ≤ count (newer_than m k) after))
      go (inl t) = inr (left m k (numbered_is m k it.old t) it.who it.why (both_first (of m it.old) _ t))
      go (inr t) = inl (omega (arith, change (fits (Numbered m k)), bit_false _ t))

  -- 16 that are newer stay 16
  pub stays_past : (m k : ℕ) → 16 ≤ count (newer_than m k) p.places → 16 ≤ count (newer_than m k) after
  stays_past m k h = go it.who it.why (bool_or (newer_than m k it.old))
    where
      go : (who : Loser) → Why n e.link p.places it.old who → (newer_than m k it.old ≡ true) ⊎ (newer_than m k it.old ≡ false) → 16 ≤ count (newer_than m k) after
      go who y (inr t) = omega (arith, change (newer_than m k), bit_false _ t)
      go Nobody (vacant a b) (inl t) = not_both (both_first (of m it.old) _ t) (free_not m it.old b)
      go (Owner j) (own a v) (inl t) =
          let same : m ≡ j = sym (of_link m it.old (both_first (of m it.old) _ t)) ∙ of_link j it.old v.mine in
          let k-less = newer_is m k it.old t in
          rw same (omega (arith, (rw same at h), change (newer_than j k), new_newer k (omega (arith, old_below j v.mine)), bit_le (newer_than j k it.old)))
      go (Owner j) (steal x a b c d v) (inl t) =
          let same : m ≡ j = sym (of_link m it.old (both_first (of m it.old) _ t)) ∙ of_link j it.old v.mine in
          let k-less = newer_is m k it.old t in
          rw same (omega (arith, change (newer_than j k), all_newer j k v (omega arith), numbered_older j k it.old.entry.sequence k-less p.places, v.none_older, bit_le (newer_than j k it.old)))

  -- what is issued is held
  pub held_new : 0 < count (fits (Numbered e.link e.sequence)) after
  held_new =
      omega (
        arith,
        change (fits (Numbered e.link e.sequence)),
        bit_and (of e.link (made e)) (eqb e.sequence e.sequence) new_mine,
        bit_eq e.sequence e.sequence refl,
        (rw it.stands at (count_at (fits (Numbered e.link e.sequence)) p.places it.at no_place it.inside)),
      )

  -- what is issued is no other owner's, and has no other number
  pub not_owner : (l k : ℕ) → eqb e.link l ≡ false → bit (fits (Numbered l k) (made e)) ≡ 0
  not_owner l k d = bit_and_no (eqb e.link l) (eqb e.sequence k) d

  pub not_number : (l k : ℕ) → (k ≡ e.sequence → ⊥) → bit (fits (Numbered l k) (made e)) ≡ 0
  not_number l k d = bit_no_second (of l (made e)) (eqb e.sequence k) (ne_eqb e.sequence k (λ z. d (sym z)))

  once_after : (l k : ℕ) → (k ≡ e.sequence) ⊎ (k ≡ e.sequence → ⊥) → (t : Bool) → eqb e.link l ≡ t → count (fits (Numbered l k)) after ≤ 1
  once_after l k (inl d) true c =
      omega (
        arith,
        change (fits (Numbered l k)),
        bit_le (fits (Numbered l k) (made e)),
        numbered_from l k (q l) (omega (arith, ap q (eqb-true e.link l c))) p.places,
        inv.fresh l,
      )
  once_after l k (inl d) false c = omega (arith, change (fits (Numbered l k)), inv.once l k, not_owner l k c)
  once_after l k (inr d) t c = omega (arith, change (fits (Numbered l k)), inv.once l k, not_number l k d)

  fresh_after : (l : ℕ) (t : Bool) → eqb e.link l ≡ t → count (from l (pick t (e.sequence + 1) (q l))) after ≡ 0
  fresh_after l true c =
      omega (
        arith,
        change (from l (e.sequence + 1)),
        inv.fresh l,
        from_less l (q l) (e.sequence + 1) (omega (arith, ap q (eqb-true e.link l c))) p.places,
        bit_no_second (of l (made e)) (leb (e.sequence + 1) e.sequence) (lt-leb (e.sequence + 1) e.sequence (omega arith)),
      )
  fresh_after l false c = omega (arith, change (from l (q l)), inv.fresh l, bit_and_no (eqb e.link l) (leb (q l) e.sequence) c)

  -- what is lost was held: an owner's two counts grow together by what is issued for it
  lost_held : (l : ℕ) (t : Bool) → eqb e.link l ≡ t → get_or (loss_of p.lost it.who) l 0 + held_in after l ≤ pick t (e.sequence + 1) (q l)
  lost_held l true c = omega (arith, loses l, inv.lost l, change (of l), bit_le (of l (made e)), ap q (eqb-true e.link l c))
  lost_held l false c = omega (arith, loses l, inv.lost l, change (of l), bit_false (eqb e.link l) c)

  bound_after : (l : ℕ) (t : Bool) → pick t (e.sequence + 1) (q l) ≤ 2147483648
  bound_after l true = omega arith
  bound_after l false = inv.bound l

  most_after : (l : ℕ) → (who : Loser) → Why n e.link p.places it.old who → (l ≡ e.link) ⊎ (l ≡ e.link → ⊥) → held_in after l ≤ 64
  most_after l who y (inr d) = omega (arith, change (of l), inv.most l, bit_ne e.link l (λ z. d (sym z)))
  most_after l Nobody (vacant a b) (inl d) = rw d (omega (arith, change (of e.link), bit_le (of e.link (made e))))
  most_after l (Owner j) (own a v) (inl d) = rw d (omega (arith, change (of e.link), bit_le (of e.link (made e)), bit_true _ v.mine, inv.most e.link))
  most_after l (Owner j) (steal x a b c g v) (inl d) = rw d (omega (arith, change (of e.link), bit_le (of e.link (made e))))

  inv_at : Inv n (record { places = after; lost = loss_of p.lost it.who }) (renewed q e.link (e.sequence + 1))
  inv_at =
      record {
        size = length-set p.places it.at (made e) ∙ inv.size;
        links = loss_length p.lost it.who ∙ inv.links;
        owned = omega (arith, change (outside n), inv.owned, bit_false _ (lt-leb n e.link mine));
        once = λ l k. once_after l k (eq_or_ne k e.sequence) (eqb e.link l) refl;
        fresh = λ l. fresh_after l (eqb e.link l) refl;
        most = λ l. most_after l it.who it.why (eq_or_ne l e.link);
        marked = omega (arith, change mismarked, inv.marked);
        lost = λ l. lost_held l (eqb e.link l) refl;
        bound = λ l. bound_after l (eqb e.link l);
      }

  pub issue_keeps : Inv n (issue_of n p e) (renewed q e.link (e.sequence + 1))
  issue_keeps = rw it.is inv_at
