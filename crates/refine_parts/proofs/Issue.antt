-- A record that is issued, and records one by one.
-- Assumes nothing.
use Rattle.basis.proofs.Std.{ℕ, suc, ◌+◌, ◌*◌, ◌/◌, ◌%◌, ◌≤◌, ◌<◌, ◌≡◌, refl, sym, ◌∙◌, ap, Bool, true, false, List, [], ◌∷◌, ◌++◌, map, map-append, append-nil, eqb, length, get_or, drop, arith, eqb-true, eqb-false, ne_eqb, lt-ltb, pick, bit}
use Rattle.entry.specs.declared.Entry.{Entry}
use Rattle.pool.specs.declared.Place.{Place}
use Rattle.pool.specs.declared.Pool.{Pool}
use Rattle.pool.specs.declared.Loser.{Loser}
use Rattle.pool.specs.declared.Loser.TheVariants.{Nobody, Owner}
use Rattle.pool.specs.Pool.{lost_of, made, issue_of, more_of}
use Rattle.pool_laws.specs.Acts.{May}
use Rattle.pool_laws.specs.Acts.Act.{Issue}
use Rattle.pool_laws.specs.Promises.{Reached}
use Rattle.pool_laws.specs.Promises.Reached.{after, later}
use Rattle.pool_laws.specs.View.{records, loser_in, shed, losses}
use Rattle.pool_laws.proofs.Viewed.{viewed}
use Rattle.pool_laws.specs.declared.Batch.{Batch}
use Rattle.pool_laws.specs.Batch.{added as added_to, added_all}
use Rattle.site.specs.Site.{owner}
use Rattle.machine.specs.Words.{keep, but_first, changed}
use Rattle.machine.specs.State.{Issued, Held, held_as, Pool as Listed, with_beside}
use Rattle.machine.specs.Pool.{is_for, is_own, owner_of, without, lose, lose_of, added, issue, issue_all}
use Rattle.machine.specs.Readings.{entry_for}
use Rattle.demand_held.proofs.Lists.{Each, each_append, each_but_first}
use Rattle.demand_held.proofs.Lists.Each.{no_more, one_more}
use Rattle.demand_held.proofs.Shrunk.{Shrunk, shrunk_each, shrunk_lost, shrunk_good}
use Rattle.demand_held.proofs.Issue.{For, issue_good, issue_next, issue_lost, issue_site, issue_beside}
use Rattle.refine_parts.specs.Record.{place_for, unnumbered, IsTold}
use Rattle.refine_parts.specs.Same.{Beside, held_for, lost_for, next_for, ToldRecord, SamePool}
use Rattle.refine_parts.proofs.PoolLists.{keep_first, keep_other, keep_last, drop_map, get_d_changed}
use Rattle.refine_parts.proofs.Entries.{entry_link, entry_sequence, numbered_entry}
use Rattle.refine_parts.proofs.Owners.{owner_is, one_side, two_sides, own_next, renewed_next, both_bounds, next_bound}
use Rattle.refine_parts.proofs.Room.{Configured, losing, room_same, loser_configured}

-- ---- one of two shares loses a part: that of owner w, which is seen where owner o is w
module _ {A B : Type 0} (f : ℕ → A → A) (g : A → B) (r : B → B) (m : Listed) (w o : ℕ) (site : m.site ≤ 1) (below : w < 8) (of-eight : o < 8) where
  abbrev Loses : A → Type 0
  Loses a = pick (eqb (w % 4) (o % 4)) (r (g a)) (g a) ≡ g (f (w % 4) a)

  abbrev chosen : A → A → A
  chosen own other = pick (is_own m o) own other

  one_loses : (own other : A) → Loses (pick (is_own m w) own other)
      → pick (eqb w o) (r (g (chosen own other))) (g (chosen own other))
      ≡ g (chosen (pick (is_own m w) (f (w % 4) own) own) (pick (is_own m w) other (f (w % 4) other)))
  one_loses own other = go (is_own m w) refl (is_own m o) refl
    where
      go : (s : Bool) → is_own m w ≡ s → (t : Bool) → is_own m o ≡ t → Loses (pick s own other)
          → pick (eqb w o) (r (g (pick t own other))) (g (pick t own other)) ≡ g (pick t (pick s (f (w % 4) own) own) (pick s other (f (w % 4) other)))
      go true e true d h = rw (one_side w o (eqb-true (w / 4) m.site e ∙ sym (eqb-true (o / 4) m.site d))) h
      go true e false d h = rw (two_sides w o (λ q. eqb-false (o / 4) m.site d (sym q ∙ eqb-true (w / 4) m.site e)))
      go false e true d h = rw (two_sides w o (λ q. eqb-false (w / 4) m.site e (q ∙ eqb-true (o / 4) m.site d)))
      go false e false d h =
          let u = eqb-false (w / 4) m.site e in
          let v = eqb-false (o / 4) m.site d in
          rw (one_side w o (other_two (w / 4) (o / 4) m.site (omega arith) (omega arith) site u v)) h
        where
          other_two : (a b k : ℕ) → a ≤ 1 → b ≤ 1 → k ≤ 1 → (a ≡ k → ⊥) → (b ≡ k → ⊥) → a ≡ b
          other_two a b k x y z u v = omega arith

-- ---- the loser's oldest is lost
module _ (m : Listed) where
  losing_told : (who : Loser) → Each ToldRecord m.held → Each ToldRecord (losing who m).held
  unfolding lose_of lose
  losing_told Nobody a = a
  losing_told (Owner w) a = go (is_own m w)
    where
      go : (t : Bool) → Each ToldRecord (pick t (lose (w % 4) m) (with_beside (without (w % 4) m.beside) m)).held
      go true = each_but_first (is_for (w % 4)) a
      go false = a

  losing_next : (who : Loser) → (losing who m).next ≡ m.next
  unfolding lose_of lose
  losing_next Nobody = refl
  losing_next (Owner w) = go (is_own m w)
    where
      go : (t : Bool) → (pick t (lose (w % 4) m) (with_beside (without (w % 4) m.beside) m)).next ≡ m.next
      go true = refl
      go false = refl

  losing_site : (who : Loser) → (losing who m).site ≡ m.site
  unfolding lose_of lose
  losing_site Nobody = refl
  losing_site (Owner w) = go (is_own m w)
    where
      go : (t : Bool) → (pick t (lose (w % 4) m) (with_beside (without (w % 4) m.beside) m)).site ≡ m.site
      go true = refl
      go false = refl

  -- which of the lists it is
  lists_after : (w o : ℕ) → held_for (lose_of w m) o
      ≡ pick (is_own m o) (pick (is_own m w) (but_first (is_for (w % 4)) m.held) m.held) (pick (is_own m w) m.beside.held (but_first (is_for (w % 4)) m.beside.held))
  unfolding lose_of lose
  lists_after w o = go (is_own m w)
    where
      go : (t : Bool) → held_for (pick t (lose (w % 4) m) (with_beside (without (w % 4) m.beside) m)) o
          ≡ pick (is_own m o) (pick t (but_first (is_for (w % 4)) m.held) m.held) (pick t m.beside.held (but_first (is_for (w % 4)) m.beside.held))
      go true = refl
      go false = refl

  counts_after : (w o : ℕ) → lost_for (lose_of w m) o
      ≡ pick (is_own m o) (pick (is_own m w) (changed (w % 4) suc m.lost) m.lost) (pick (is_own m w) m.beside.lost (changed (w % 4) suc m.beside.lost))
  unfolding lose_of lose
  counts_after w o = go (is_own m w)
    where
      go : (t : Bool) → lost_for (pick t (lose (w % 4) m) (with_beside (without (w % 4) m.beside) m)) o
          ≡ pick (is_own m o) (pick t (changed (w % 4) suc m.lost) m.lost) (pick t m.beside.lost (changed (w % 4) suc m.beside.lost))
      go true = refl
      go false = refl

  oldest_gone : (o j i : ℕ) (hs : List Held)
      → pick (eqb j i) (drop 1 (map (place_for o) (keep (is_for i) hs))) (map (place_for o) (keep (is_for i) hs)) ≡ map (place_for o) (keep (is_for i) (but_first (is_for j) hs))
  oldest_gone o j i hs = go (eqb j i) refl
    where
      go : (t : Bool) → eqb j i ≡ t
          → pick t (drop 1 (map (place_for o) (keep (is_for i) hs))) (map (place_for o) (keep (is_for i) hs)) ≡ map (place_for o) (keep (is_for i) (but_first (is_for j) hs))
      go true e = rw (eqb-true j i e) (drop_map (place_for o) (keep (is_for i) hs) ∙ ap (map (place_for o)) (sym (keep_first (is_for i) hs)))
      go false e =
          ap (map (place_for o)) (sym (keep_other (is_for j) (is_for i) (λ h t. ne_eqb h.link i (λ s. eqb-false j i e (sym (eqb-true h.link j t) ∙ s))) hs))

  losing_held : m.site ≤ 1 → (who : Loser) → Configured m who → (o : ℕ) → o < 8
      → shed who o (map (place_for o) (keep (is_for (o % 4)) (held_for m o))) ≡ map (place_for o) (keep (is_for (o % 4)) (held_for (losing who m) o))
  losing_held site Nobody c o h = refl
  losing_held site (Owner w) c o h =
      one_loses (λ (j : ℕ) (hs : List Held). but_first (is_for j) hs) (λ (hs : List Held). map (place_for o) (keep (is_for (o % 4)) hs)) (drop 1) m w o site c.0 h
      m.held m.beside.held (oldest_gone o (w % 4) (o % 4) (pick (is_own m w) m.held m.beside.held))
      ∙ ap (λ (hs : List Held). map (place_for o) (keep (is_for (o % 4)) hs)) (sym (lists_after w o))

  one_more_lost : (j i : ℕ) (ns : List ℕ) → j < length ns → pick (eqb j i) (suc (get_or ns i 0)) (get_or ns i 0) ≡ get_or (changed j suc ns) i 0
  one_more_lost j i ns h = go (eqb j i) ∙ sym (get_d_changed j i ns h)
    where
      go : (t : Bool) → pick t (suc (get_or ns i 0)) (get_or ns i 0) ≡ get_or ns i 0 + bit t
      go true = omega arith
      go false = omega arith

  losing_lost : m.site ≤ 1 → (who : Loser) → Configured m who → (o : ℕ) → o < 8
      → get_or (lost_for (losing who m) o) (o % 4) 0 ≡ get_or (lost_for m o) (o % 4) 0 + losses who o
  losing_lost site Nobody c o h = omega arith
  losing_lost site (Owner w) c o h =
      ap (λ (ns : List ℕ). get_or ns (o % 4) 0) (counts_after w o)
      ∙ sym (one_loses (λ (j : ℕ) (ns : List ℕ). changed j suc ns) (λ (ns : List ℕ). get_or ns (o % 4) 0) suc m w o site c.0 h m.lost m.beside.lost
      (one_more_lost (w % 4) (o % 4) (pick (is_own m w) m.lost m.beside.lost) c.1))
      ∙ go (eqb w o)
    where
      go : (t : Bool) → pick t (suc (get_or (lost_for m o) (o % 4) 0)) (get_or (lost_for m o) (o % 4) 0) ≡ get_or (lost_for m o) (o % 4) 0 + bit t
      go true = omega arith
      go false = omega arith

module _ {links k q : ℕ} {x : Beside} {p : Pool} {m : Listed} (same : SamePool links x k p q m) (i : Issued) (link : i.link < links) (told : IsTold i.content) (small : q ≤ 2147483647) where
  abbrev its : ℕ
  its = owner_of m.site i.link

  abbrev entry : Entry
  entry = entry_for (owner k i.link) q i.content

  abbrev who : Loser
  who = loser_in 8 (records p) its

  abbrev left : Listed
  left = losing who m

  issue_is : issue i m ≡ added i left
  unfolding issue
  issue_is = ap (added i) (room_same same i.link link)

  its_owner : owner k i.link ≡ its
  its_owner = owner_is k i.link (omega (arith, same.few)) ∙ (let e : 4 * k + i.link ≡ its = omega (arith, same.site) in e)

  of_owner : entry.link ≡ its
  of_owner = entry_link (owner k i.link) q i.content ∙ its_owner

  of_number : entry.sequence ≡ q
  of_number = entry_sequence (owner k i.link) q i.content

  below_eight : its < 8
  below_eight = omega (arith, same.few, same.good.site)

  its_site : its / 4 ≡ k
  its_site = omega (arith, same.few, same.site)

  one_of_two : k ≤ 1
  one_of_two = omega (arith, same.site, same.good.site)

  abbrev nexts : ℕ → ℕ
  nexts = next_for k q x.next

  may : May 8 nexts (Issue entry)
  may = (
    omega (arith, of_owner, below_eight),
    (
      omega (arith, of_number, ap nexts of_owner, own_next k q x.next its below_eight its_site),
      omega (arith, of_number),
    ),
  )

  after_reached : Reached 8 (issue_of 8 p entry) (next_for k (suc q) x.next)
  after_reached =
      let bounds = both_bounds one_of_two same.reached in
      later (next_for k (suc q) x.next) (after (Issue entry) same.reached may)
      (λ o. renewed_next k q x.next entry.link (omega (arith, of_owner, below_eight)) (ap (λ (n : ℕ). n / 4) of_owner ∙ its_site) (entry.sequence + 1) o (omega (arith, of_number)))
      (next_bound k (suc q) x.next (omega arith) bounds.1)

  same_loser : loser_in 8 (records p) entry.link ≡ who
  same_loser = ap (loser_in 8 (records p)) of_owner

  left_next : left.next ≡ q
  left_next = losing_next m who ∙ same.next

  abbrev new : Held
  new = held_as i.link i.content left.next false

  new_is : (o : ℕ) → its ≡ o → made entry ≡ place_for o new
  new_is o e = rw (left_next, its_owner ∙ e)

  its_place : (o : ℕ) → o / 4 ≡ m.site → eqb entry.link o ≡ eqb i.link (o % 4)
  its_place o e =
      let r : its % 4 ≡ i.link = omega (arith, same.few) in
      let d : its / 4 ≡ o / 4 = omega (arith, same.few) in
      ap (λ (w : ℕ). eqb w o) of_owner ∙ one_side its o d ∙ ap (λ (j : ℕ). eqb j (o % 4)) r

  not_its : (o : ℕ) → (o / 4 ≡ m.site → ⊥) → eqb entry.link o ≡ false
  not_its o d =
      let r : its / 4 ≡ m.site = omega (arith, same.few) in
      ap (λ (w : ℕ). eqb w o) of_owner ∙ two_sides its o (λ e. d (sym e ∙ r))

  -- the new one is the last of its link's
  own_tail : (o : ℕ) → o / 4 ≡ m.site → pick (eqb entry.link o) (made entry ∷ []) [] ≡ map (place_for o) (pick (is_for (o % 4) new) (new ∷ []) [])
  own_tail o e = ap (λ (t : Bool). pick t (made entry ∷ []) []) (its_place o e) ∙ go (eqb i.link (o % 4)) refl
    where
      go : (t : Bool) → eqb i.link (o % 4) ≡ t → pick t (made entry ∷ []) [] ≡ map (place_for o) (pick t (new ∷ []) [])
      go true d = let s : its ≡ o = omega (arith, eqb-true i.link (o % 4) d) in ap (λ (y : Place). y ∷ []) (new_is o s)
      go false d = refl

  tail_same : (o : ℕ) → o < 8
      → map (place_for o) (keep (is_for (o % 4)) (held_for left o)) ++ pick (eqb entry.link o) (made entry ∷ []) [] ≡ map (place_for o) (keep (is_for (o % 4)) (held_for (added i left) o))
  tail_same o h = go (is_own left o) refl
    where
      go : (t : Bool) → is_own left o ≡ t
          → map (place_for o) (keep (is_for (o % 4)) (pick t left.held left.beside.held)) ++ pick (eqb entry.link o) (made entry ∷ []) []
          ≡ map (place_for o) (keep (is_for (o % 4)) (pick t (left.held ++ (new ∷ [])) left.beside.held))
      go true e =
          ap (λ (r : List Place). map (place_for o) (keep (is_for (o % 4)) left.held) ++ r) (own_tail o (eqb-true (o / 4) left.site e ∙ losing_site m who))
          ∙ sym (map-append (place_for o) (keep (is_for (o % 4)) left.held) (pick (is_for (o % 4) new) (new ∷ []) []))
          ∙ ap (map (place_for o)) (sym (keep_last (is_for (o % 4)) left.held new))
      go false e =
          rw (not_its o (λ d. eqb-false (o / 4) left.site e (d ∙ sym (losing_site m who)))) (append-nil (map (place_for o) (keep (is_for (o % 4)) left.beside.held)))

  configured : Configured m who
  configured = loser_configured same i.link link

  after_held : (o : ℕ) → o < 8 → records (issue_of 8 p entry) o ≡ map (place_for o) (keep (is_for (o % 4)) (held_for (added i left) o))
  after_held o h =
      (viewed 8 (omega arith)).issue p nexts same.reached entry may o
      ∙ ap (λ (w : Loser). shed w o (records p o) ++ pick (eqb entry.link o) (made entry ∷ []) []) same_loser
      ∙ ap (λ (r : List Place). shed who o r ++ pick (eqb entry.link o) (made entry ∷ []) []) (same.held o h)
      ∙ ap (λ (r : List Place). r ++ pick (eqb entry.link o) (made entry ∷ []) []) (losing_held m same.good.site who configured o h)
      ∙ tail_same o h

  after_lost : (o : ℕ) → o < 8 → lost_of (issue_of 8 p entry) o ≡ get_or (lost_for left o) (o % 4) 0
  after_lost o h =
      omega (
        arith,
        (viewed 8 (omega arith)).issue_lost p nexts same.reached entry may o,
        ap (λ (w : Loser). losses w o) same_loser,
        same.lost o h,
        losing_lost m same.good.site who configured o h,
      )

  linked : i.link < length m.lost
  linked = omega (arith, same.configured)

  beside_left : Shrunk m.beside (issue i m).beside
  beside_left = issue_beside i m same.good linked

  pub issue_same : SamePool links x k (issue_of 8 p entry) (suc q) (issue i m)
  issue_same =
      record {
        site = issue_site i m same.good linked ∙ same.site;
        next = issue_next i m same.good linked ∙ ap suc same.next;
        held = λ o h. after_held o h ∙ ap (λ (r : Listed). map (place_for o) (keep (is_for (o % 4)) (held_for r o))) (sym issue_is);
        told = rw issue_is (each_append (losing_told m who same.told) (one_more told no_more));
        told_beside = shrunk_each beside_left same.told_beside;
        lost = λ o h. after_lost o h ∙ ap (λ (r : Listed). get_or (lost_for r o) (o % 4) 0) (sym issue_is);
        configured = issue_lost i m same.good linked ∙ same.configured;
        configured_beside = shrunk_lost beside_left ∙ same.configured_beside;
        few = same.few;
        reached = after_reached;
        good = issue_good i m same.good linked;
        beside = shrunk_good beside_left same.beside;
      }

-- ---- records one by one
more_is : (q : ℕ) → q ≤ 2147483647 → more_of q ≡ suc q
more_is q h = rw (lt-ltb q 18446744073709551615 (omega arith)) (omega arith)

module _ (k : ℕ) (b : Batch) (i : Issued) (small : b.next ≤ 2147483647) where
  one_next : (added_to 8 b (unnumbered k i)).next ≡ suc b.next
  unfolding added_to
  one_next = more_is b.next small

  one_same : {links : ℕ} {x : Beside} {m : Listed} → SamePool links x k b.pool b.next m → i.link < links → IsTold i.content
      → SamePool links x k (added_to 8 b (unnumbered k i)).pool (added_to 8 b (unnumbered k i)).next (issue i m)
  unfolding added_to
  one_same same f t = rw (more_is b.next small, numbered_entry k i b.next small) (issue_same same i f t small)

pub issue_all_same : {links k : ℕ} {x : Beside} (b : Batch) {m : Listed} → SamePool links x k b.pool b.next m → (is : List Issued) → Each (For links) is
    → Each (λ (i : Issued). IsTold i.content) is → b.next + length is ≤ 2147483648
    → SamePool links x k (added_all 8 b (map (unnumbered k) is)).pool (added_all 8 b (map (unnumbered k) is)).next (issue_all is m)
issue_all_same b same [] fs ts h = same
issue_all_same {k = k} b same (i ∷ is) (one_more f fs) (one_more t ts) h =
    let small : b.next ≤ 2147483647 = omega arith in
    issue_all_same (added_to 8 b (unnumbered k i)) (one_same k b i small same f t) is fs ts (omega (arith, one_next k b i small))
