-- What is asked of both pools has the same answer.
-- Assumes nothing.
use Rattle.basis.proofs.Std.{ℕ, zero, suc, ◌+◌, ◌*◌, ◌/◌, ◌%◌, ◌≤◌, ◌<◌, ◌≡◌, refl, sym, ◌∙◌, ap, ap₂, subst, Bool, true, false, not, List, [], ◌∷◌, map, Option, some, none, ◌⊎◌, inl, inr, eqb, ltb, length, get_or, arith, eqb-true, eq-eqb, lt-ltb, le-ltb, pick, both, count, Among, lt_or_ge, both_first, both_second}
use Rattle.basis.specs.Lists.Among.{first, later}
use Rattle.entry.specs.Layout.{bytes_of}
use Rattle.pool.specs.declared.Place.{Place}
use Rattle.pool.specs.declared.Pool.{Pool}
use Rattle.pool.specs.declared.Reading.{Reading}
use Rattle.pool.specs.declared.Sought.{Sought}
use Rattle.pool.specs.declared.Sought.TheVariants.{Found, Nothing}
use Rattle.pool.specs.Pool.{held_of, lost_of, oldest_unsent, newest_alarm, ranked_of, reading_of}
use Rattle.pool_laws.specs.View.{first_where, or_else, last_where, nth, not_sent, of_alarm}
use Rattle.pool_laws.proofs.Viewed.{viewed}
use Rattle.pool_laws.proofs.BatchKept.{kept}
use Rattle.site.specs.Site.{owner}
use Rattle.machine.specs.Words.{maybe, is_some, keep, first_that}
use Rattle.machine.specs.State.{Held, Machine, alarm_at, Effect}
use Rattle.machine.specs.State.Sent.{no_record}
use Rattle.machine.specs.Pool.{is_for, owner_of}
use Rattle.machine.specs.Life.{alarm_in, newest, carries, carried_by, oldest_unsent as oldest_unsent_of}
use Rattle.machine.specs.Readings.{entry_for, record_bytes, reading}
use Rattle.machine.specs.Step.{sequence_ends}
use Rattle.demand_held.proofs.Lists.{bit_true, Each, each_kept, among_keep, length-map}
use Rattle.demand_held.proofs.Lists.Each.{no_more, one_more}
use Rattle.demand_held.proofs.Good.{beyond}
use Rattle.refine_parts.specs.Record.{place_for, found, unnumbered, carried_like, reading_at}
use Rattle.refine_parts.specs.Same.{Beside, next_for, SamePool}
use Rattle.refine_parts.specs.Claims.{batch_of, Stands}
use Rattle.refine_parts.proofs.PoolLists.{keep_length, first_kept}
use Rattle.refine_parts.proofs.Entries.{alarm_entry, carried_entry}
use Rattle.refine_parts.proofs.Owners.{owner_is, both_bounds}
use Rattle.refine_parts.proofs.Others.{is_numbered, nothing_in, own_records, numbered_same}

-- ---- the first, the newest and the r-th of a link's records
first_place : (o : ℕ) (hs : List Held) → first_where not_sent (map (place_for o) hs) ≡ found o (first_that (λ h. not h.sent) hs)
unfolding first_where
first_place o [] = refl
first_place o (h ∷ hs) = go h.sent (first_place o hs)
  where
    go : (t : Bool) → first_where not_sent (map (place_for o) hs) ≡ found o (first_that (λ h. not h.sent) hs)
        → pick (eqb (pick t 2 1) 1) (Found (place_for o h)) (first_where not_sent (map (place_for o) hs)) ≡ found o (pick (not t) (some h) (first_that (λ h. not h.sent) hs))
    go true r = r
    go false r = refl

last_place : (w l i : ℕ) (o : Option Held) (hs : List Held)
    → found w (newest l i o hs) ≡ or_else (last_where (of_alarm i) (map (place_for w) (keep (is_for l) hs))) (found w o)
unfolding last_where
last_place w l i o [] = refl
last_place w l i o (h ∷ hs) =
    last_place w l i (pick (both (is_for l h) (is_some (alarm_in i h.content))) (some h) o) hs ∙ go (is_for l h) (is_some (alarm_in i h.content)) (alarm_entry w i h)
  where
    rest : Sought
    rest = last_where (of_alarm i) (map (place_for w) (keep (is_for l) hs))

    later_first : (s : Sought) (b : Bool) → or_else s (found w (pick b (some h) o)) ≡ or_else (or_else s (pick b (Found (place_for w h)) Nothing)) (found w o)
    later_first (Found x) b = refl
    later_first Nothing true = refl
    later_first Nothing false = refl

    go : (a b : Bool) → of_alarm i (place_for w h) ≡ b
        → or_else rest (found w (pick (both a b) (some h) o)) ≡ or_else (last_where (of_alarm i) (map (place_for w) (pick a (h ∷ keep (is_for l) hs) (keep (is_for l) hs)))) (found w o)
    go true b e = later_first rest b ∙ ap (λ (t : Bool). or_else (or_else rest (pick t (Found (place_for w h)) Nothing)) (found w o)) (sym e)
    go false b e = refl

less_suc : (a b : ℕ) → ltb (suc a) (suc b) ≡ ltb a b
less_suc a b = go (lt_or_ge a b)
  where
    go : (a < b) ⊎ (b ≤ a) → ltb (suc a) (suc b) ≡ ltb a b
    go (inl h) = lt-ltb (suc a) (suc b) (omega arith) ∙ sym (lt-ltb a b h)
    go (inr h) = le-ltb (suc a) (suc b) (omega arith) ∙ sym (le-ltb a b h)

-- a record's bytes say its owner
abbrev Owned : ℕ → ℕ → Held → Type 0
Owned o k h = o ≡ owner_of k h.link

own_bytes : (o k : ℕ) (h : Held) → Owned o k h → ◌≡◌ {A = Reading} (reading_of (Found (place_for o h))) (record { found = true; bytes = record_bytes k h })
own_bytes o k h e = ap (λ (l : ℕ). record { found = true; bytes = bytes_of (entry_for l h.sequence h.content) }) e

nth_place : (o k r : ℕ) (hs : List Held) → Each (Owned o k) hs → reading_of (nth r (map (place_for o) hs)) ≡ reading_at r (map (record_bytes k) hs)
unfolding nth
nth_place o k r [] no_more = rw (le-ltb r 0 (omega arith))
nth_place o k zero (h ∷ hs) (one_more e es) = rw (lt-ltb 0 (suc (length (map (record_bytes k) hs))) (omega arith)) (own_bytes o k h e)
nth_place o k (suc r) (h ∷ hs) (one_more e es) = rw (less_suc r (length (map (record_bytes k) hs))) (nth_place o k r hs es)

-- ---- what is found is in the list
either_none : (s : Sought) → or_else s Nothing ≡ s
either_none (Found x) = refl
either_none Nothing = refl

first_among : (f : Held → Bool) (hs : List Held) (h : Held) → first_that f hs ≡ some h → Among h hs × (f h ≡ true)
first_among f [] h e = absurd (let z : ◌≡◌ {A = ℕ} 0 1 = cc in omega arith)
first_among f (x ∷ hs) h e = go (f x) refl e (first_among f hs h)
  where
    go : (t : Bool) → f x ≡ t → pick t (some x) (first_that f hs) ≡ some h → (first_that f hs ≡ some h → Among h hs × (f h ≡ true)) → Among h (x ∷ hs) × (f h ≡ true)
    go true d e r = let s : x ≡ h = cc in rw (← s) (first, d)
    go false d e r = (later (r e).0, (r e).1)

abbrev is_alarm_of : ℕ → ℕ → Held → Bool
is_alarm_of l i h = both (is_for l h) (is_some (alarm_in i h.content))

newest_among : (l i : ℕ) (o : Option Held) (hs : List Held) (h : Held) → newest l i o hs ≡ some h → (o ≡ some h) ⊎ (Among h hs × (is_alarm_of l i h ≡ true))
newest_among l i o [] h e = inl e
newest_among l i o (x ∷ hs) h e = go (is_alarm_of l i x) refl (newest_among l i (pick (is_alarm_of l i x) (some x) o) hs h e)
  where
    go : (t : Bool) → is_alarm_of l i x ≡ t → (pick t (some x) o ≡ some h) ⊎ (Among h hs × (is_alarm_of l i h ≡ true)) → (o ≡ some h) ⊎ (Among h (x ∷ hs) × (is_alarm_of l i h ≡ true))
    go t d (inr r) = inr (later r.0, r.1)
    go true d (inl e) = let s : x ≡ h = cc in inr (rw (← s) (first, d))
    go false d (inl e) = inl e

of_each : {A : Type 0} {P : A → Type 0} {x : A} {xs : List A} → Each P xs → Among x xs → P x
of_each {A = A} {P = P} no_more x4 = elim x4 [ ]
of_each (one_more p r) first = p
of_each (one_more p r) (later a) = of_each r a

counts : {A : Type 0} (f : A → Bool) {x : A} {xs : List A} → f x ≡ true → Among x xs → 1 ≤ count f xs
counts f e (first {xs}) = omega (arith, bit_true _ e)
counts f e (later a) = omega (arith, counts f e a)

module _ {links k q : ℕ} {x : Beside} {p : Pool} (m : Machine) (same : SamePool links x k p q m.pool) where
  abbrev hs : List Held
  hs = m.pool.held

  abbrev its : ℕ → ℕ
  its l = owner k l

  pub unsent_same : (l : ℕ) → oldest_unsent p (its l) ≡ found (its l) (oldest_unsent_of m l)
  unsent_same l =
      (viewed 8 (omega arith)).oldest_unsent_lem p (its l) ∙ ap (first_where not_sent) (own_records m same l) ∙ first_place (its l) (keep (is_for l) hs)
      ∙ ap (found (its l)) (sym (first_kept (is_for l) (λ h. not h.sent) hs))

  pub alarm_same : (l i : ℕ) → newest_alarm p (its l) i ≡ found (its l) (newest l i none hs)
  alarm_same l i =
      (viewed 8 (omega arith)).newest_alarm_lem p (its l) i ∙ ap (last_where (of_alarm i)) (own_records m same l)
      ∙ sym (last_place (its l) l i none hs ∙ either_none (last_where (of_alarm i) (map (place_for (its l)) (keep (is_for l) hs))))

  stands : (l : ℕ) (h : Held) → Among h hs → is_for l h ≡ true → Stands p (its l) l h
  stands l h a e =
      record {
        link = eqb-true h.link l e;
        held = omega (
          arith,
          (viewed 8 (omega arith)).counted p (its l) (λ (y : Place). eqb y.entry.sequence h.sequence),
          numbered_same m same l h.sequence,
          counts (is_numbered h.sequence) (eq-eqb h.sequence h.sequence refl) (among_keep (is_for l) e a),
        );
        told = of_each same.told a;
      }

  pub unsent_stands : (l : ℕ) (h : Held) → oldest_unsent_of m l ≡ some h → Stands p (its l) l h
  unsent_stands l h e =
      let r = first_among (λ (h : Held). both (is_for l h) (not h.sent)) hs h e in
      stands l h r.0 (both_first (is_for l h) (not h.sent) r.1)

  -- the newest record of an alarm, where there is one
  newest_is : (l i : ℕ) (h : Held) → newest l i none hs ≡ some h → Among h hs × (is_alarm_of l i h ≡ true)
  newest_is l i h e = go (newest_among l i none hs h e)
    where
      go : (none ≡ some h) ⊎ (Among h hs × (is_alarm_of l i h ≡ true)) → Among h hs × (is_alarm_of l i h ≡ true)
      go (inl d) = absurd (let z : ◌≡◌ {A = ℕ} 0 1 = cc in omega arith)
      go (inr r) = r

  pub alarm_stands : (l i : ℕ) (h : Held) → newest l i none hs ≡ some h → Stands p (its l) l h
  alarm_stands l i h e = let r = newest_is l i h e in stands l h r.0 (both_first (is_for l h) _ r.1)

  pub carried_same : (l i : ℕ) → carried_by m l i ≡ carried_like (alarm_at m i) (newest_alarm p (its l) i)
  unfolding carried_by
  carried_same l i = rw (alarm_same l i) (go (newest l i none hs) refl)
    where
      go : (o : Option Held) → newest l i none hs ≡ o → maybe no_record (carries (alarm_at m i) i) o ≡ carried_like (alarm_at m i) (found (its l) o)
      go none e = refl
      go (some h) e = carried_entry (its l) (alarm_at m i) i h (both_second (is_for l h) _ (newest_is l i h e).1)

  pub held_read : (l : ℕ) → held_of p (its l) ≡ (reading m l).held
  unfolding reading
  held_read l =
      (viewed 8 (omega arith)).held p (its l) ∙ ap length (own_records m same l) ∙ length-map (place_for (its l)) (keep (is_for l) hs) ∙ keep_length (is_for l) hs

  pub lost_read : (l : ℕ) → l < 4 → lost_of p (its l) ≡ (reading m l).lost
  unfolding reading
  lost_read l f =
      let s : (4 * k + l) / 4 ≡ m.pool.site = omega (arith, same.site) in
      let r : (4 * k + l) % 4 ≡ l = omega arith in
      rw (owner_is k l f) (same.lost (4 * k + l) (omega (arith, same.site, same.good.site))
      ∙ ap₂ (λ (t : Bool) (j : ℕ). get_or (pick t m.pool.lost m.pool.beside.lost) j 0) (eq-eqb ((4 * k + l) / 4) m.pool.site s) r)

  -- those of link l are its owner's; a link that has none has no records
  owned : (l : ℕ) → Each (Owned (its l) m.pool.site) (keep (is_for l) hs)
  owned l = go (lt_or_ge l 4)
    where
      go : (l < 4) ⊎ (4 ≤ l) → Each (Owned (its l) m.pool.site) (keep (is_for l) hs)
      go (inl f) =
          each_kept (is_for l) (λ h e. owner_is k l f ∙ (let s : 4 * k + l ≡ owner_of m.pool.site h.link = omega (arith, same.site, eqb-true h.link l e) in s)) hs
      go (inr f) =
          subst (Each (Owned (its l) m.pool.site)) (sym (nothing_in (keep (is_for l) hs)
          (omega (arith, keep_length (is_for l) hs, beyond l (omega (arith, same.configured, same.few)) hs same.good.own.links)))) no_more

  pub records_read : (l r : ℕ) → reading_of (ranked_of p (its l) r) ≡ reading_at r (reading m l).records
  unfolding reading
  records_read l r =
      ap reading_of ((viewed 8 (omega arith)).ranked p (next_for k q x.next) same.reached (its l) r ∙ ap (nth r) (own_records m same l))
      ∙ nth_place (its l) m.pool.site r (keep (is_for l) hs) (owned l)

  spent_by : (n i : ℕ) → n ≡ i → both (ltb 0 n) (ltb 2147483648 (q + n)) ≡ ltb 2147483648 (m.pool.next + i)
  spent_by zero i e =
      sym (le-ltb 2147483648 (m.pool.next + i) (omega (arith, same.next, (both_bounds (let f : k ≤ 1 = omega (arith, same.site, same.good.site) in f) same.reached).0)))
  spent_by (suc n) i e = rw (lt-ltb 0 (suc n) (omega arith), e, same.next)

  pub spent_same : (left : Pool) (e : Effect) → (batch_of k left q e.issues).spent ≡ sequence_ends m e
  spent_same left e =
      (kept 8 (omega arith)).spent left q (map (unnumbered k) e.issues)
      ∙ spent_by (length (map (unnumbered k) e.issues)) (length e.issues) (length-map (unnumbered k) e.issues)
