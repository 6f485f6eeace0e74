-- What holds at every place of a run.
-- Assumes nothing.
use Rattle.basis.proofs.Std.{ℕ, zero, suc, ◌+◌, ◌≤◌, ◌<◌, ◌≡◌, refl, sym, ◌∙◌, ap, subst, true, false, List, [], ◌∷◌, ◌++◌, Option, some, none, ◌⊎◌, inl, inr, ltb, leb, length, get_or, replicate, length-replicate, arith, ltb-true, leb-true, eq-eqb, both_first, both_second, not_both}
use Rattle.basis.proofs.Among.{among_none}
use Rattle.machine.specs.Words.{maybe, is_number}
use Rattle.machine.specs.State.{Issued, Held, Setup, Share, Pool, own_of, Start, Machine, Act, Call}
use Rattle.answer.specs.Times.{last_time}
use Rattle.machine.specs.Table.{last_sequence, Begins}
use Rattle.machine.specs.Table.Begins.{begins}
use Rattle.machine.specs.Pool.{holds, issue_all}
use Rattle.machine.specs.Step.{number_of, after, step}
use Rattle.machine.specs.Box.{finds, begins_beside}
use Rattle.machine.specs.Run.{Past, past, Neighbours, Run}
use Rattle.machine.specs.Run.Run.{begun, begun_beside, next, other_starts, other_calls}
use Rattle.demand_held.specs.Held.{IsHeld, newer, IsDone, issued_by, issues_of, Answered, NoPlace, NoRoom, Kept, Fate, KeptBeside, packet_link, At}
use Rattle.demand_held.specs.Held.Answered.{answered}
use Rattle.demand_held.specs.Held.NoRoom.{link_full, pool_full}
use Rattle.demand_held.specs.Held.Kept.{stays, pushed}
use Rattle.demand_held.specs.Held.Fate.{kept, settled}
use Rattle.demand_held.specs.Held.KeptBeside.{stays as stays_beside, pushed as pushed_beside}
use Rattle.demand_held.specs.Held.IsHeld.{held as is_held_lem}
use Rattle.demand_held.specs.Crowded.{Crowded}
use Rattle.demand_held.specs.Counted.{IssuedIn, answers_of, if_done, issued_count, answered_count}
use Rattle.demand_held.specs.Counted.IssuedIn.{issued_now, issued_before}
use Rattle.demand_held.proofs.Lists.{Each}
use Rattle.demand_held.proofs.Lists.Each.{no_more}
use Rattle.demand_held.proofs.Good.{Good, Fits}
use Rattle.demand_held.proofs.Good.Rising.{ends}
use Rattle.demand_held.proofs.Rising.{rising_once, newer_older}
use Rattle.demand_held.proofs.Shrunk.{Shrunk, as_it_was, shrunk_each, shrunk_among, shrunk_lost, shrunk_good, shrunk_counts}
use Rattle.demand_held.proofs.Room.{size, Over}
use Rattle.demand_held.proofs.Issue.{For, held_below, all_good, all_every, all_lost, Placed, all_origin, all_counts, Short, all_fate, all_issued, never_crowded, all_site, all_beside, all_spared}
use Rattle.demand_held.proofs.Lays.{Lays, lays}
use Rattle.demand_held.proofs.Counts.{exact}
use Rattle.demand_held.proofs.Steps.{laid, step_done, step_refused, done_number, number_done, there}

pub record Sound (m : Machine) : Type 0 where
  pub good : Good m.pool
  pub alarms : Each (Fits m.setup) m.pool.held
  pub counts : length m.pool.lost ≡ m.setup.links
  pub primary : (p : ℕ) → m.setup.primary ≡ some p → p < m.setup.links

over_newer : (l n : ℕ) (hs : List Held) → Over l n hs → 16 ≤ newer l n hs
over_newer l n hs o = omega (arith, o.none, o.many, newer_older l n hs)

module _ (m : Machine) (s : Sound m) (c : Call) where
  module _ (here : (l : ℕ) → packet_link c.act ≡ some l → l < m.setup.links) where
    lay : Lays (λ l n. Answered m l n c.act) m (laid m c)
    lay = lays m s.primary c.time c.act here

    good_laid : Good (laid m c).leaves.pool
    good_laid = lay.frame.good s.good

    for_laid : Each (For (length (laid m c).leaves.pool.lost)) (laid m c).issues
    for_laid = rw (lay.frame.lost, s.counts) lay.issued

  not_two : number_of m c ≡ none → number_of m c ≡ some 2 → ⊥
  not_two e f = let z : ◌≡◌ {A = ℕ} 0 1 = cc in omega arith

  module _ (e : number_of m c ≡ none) where
    here : (l : ℕ) → packet_link c.act ≡ some l → l < m.setup.links
    here = there m c.time c.act (not_two e)

    done_sound : Sound (after c.time (laid m c))
    done_sound =
        record {
          good = all_good (laid m c).issues (laid m c).leaves.pool (good_laid here) (for_laid here);
          alarms =
              rw (lay here).frame.setup (all_every (laid m c).issues (laid m c).leaves.pool (good_laid here) (for_laid here) m.setup (lay here).told
              ((lay here).frame.every m.setup s.alarms));
          counts =
              all_lost (laid m c).issues (laid m c).leaves.pool (good_laid here) (for_laid here)
              ∙ ap length (lay here).frame.lost ∙ s.counts ∙ ap (λ (u : Setup). u.links) (sym (lay here).frame.setup);
          primary = rw (lay here).frame.setup s.primary;
        }

    abbrev End : Pool
    End = issue_all (laid m c).issues (laid m c).leaves.pool

    abbrev Pushed : ℕ → ℕ → Type 0
    Pushed l n = Over l n End.held × Short (laid m c).issues (laid m c).leaves.pool l

    no_place : 128 < size (laid m c).leaves.pool + length (laid m c).issues → NoPlace m c
    no_place s = omega (arith, (lay here).frame.shorter, ap (λ (x : Share). length x.held) (lay here).frame.beside)

    no_room : (l : ℕ) → Short (laid m c).issues (laid m c).leaves.pool l → NoRoom m c l
    no_room l (inl s) = link_full (omega (arith, (lay here).frame.fewer l))
    no_room l (inr s) = pool_full (no_place s)

    after_all : (r : Issued) (n : ℕ) → IsHeld r n End.held ⊎ Pushed r.link n → Kept m c r n
    after_all r n (inl h) = stays (rw (step_done m c e) h)
    after_all r n (inr o) = pushed (number_done m c e) (no_room r.link o.1) (rw (step_done m c e) (over_newer r.link n End.held o.0))

    fate_done : (r : Issued) (n : ℕ) → IsHeld r n m.pool.held → Kept m c r n ⊎ Answered m r.link n c.act
    fate_done r n h = go ((lay here).frame.spared r n h)
      where
        go : IsHeld r n (laid m c).leaves.pool.held ⊎ Answered m r.link n c.act → Kept m c r n ⊎ Answered m r.link n c.act
        go (inl k) = inl (after_all r n (all_fate (laid m c).issues (laid m c).leaves.pool (good_laid here) (for_laid here) r n k))
        go (inr a) = inr a

    issued_done : (k : ℕ) (i : Issued) → At i k (issued_by m c) → Kept m c i (m.pool.next + k)
    issued_done k i a =
        after_all i (m.pool.next + k)
        (subst (λ (n : ℕ). IsHeld i (n + k) End.held ⊎ Pushed i.link (n + k)) (lay here).frame.next
        (all_issued (laid m c).issues (laid m c).leaves.pool (good_laid here) (for_laid here) a))

    -- the other site's
    beside_done : Shrunk m.pool.beside End.beside
    beside_done = subst (λ (x : Share). Shrunk x End.beside) (lay here).frame.beside (all_beside (laid m c).issues (laid m c).leaves.pool (good_laid here) (for_laid here))

    site_done : End.site ≡ m.pool.site
    site_done = all_site (laid m c).issues (laid m c).leaves.pool (good_laid here) (for_laid here) ∙ (lay here).frame.site

    spared_done : (r : Issued) (n : ℕ) → IsHeld r n m.pool.beside.held → KeptBeside m c r n
    spared_done r n h =
        go (all_spared (laid m c).issues (laid m c).leaves.pool (good_laid here) (for_laid here) r n (subst (λ (x : Share). IsHeld r n x.held) (sym (lay here).frame.beside) h))
      where
        go : IsHeld r n End.beside.held ⊎ (Over r.link n End.beside.held × (128 < size (laid m c).leaves.pool + length (laid m c).issues)) → KeptBeside m c r n
        go (inl k) = stays_beside (rw (step_done m c e) k)
        go (inr o) = pushed_beside (number_done m c e) (no_place o.1) (rw (step_done m c e) (over_newer r.link n End.beside.held o.0))

  -- ---- refused or done
  by_number : {P : Type 0} → (number_of m c ≡ none → P) → ((n : ℕ) → number_of m c ≡ some n → P) → P
  by_number {P} f g = go (number_of m c) refl
    where
      go : (o : Option ℕ) → number_of m c ≡ o → P
      go none e = f e
      go (some n) e = g n e

  pub step_sound : Sound (step m c).1
  step_sound = by_number (λ e. rw (step_done m c e) (done_sound e)) (λ n e. rw (step_refused m c n e) s)

  pub step_beside : Shrunk m.pool.beside (step m c).1.pool.beside
  step_beside = by_number (λ e. rw (step_done m c e) (beside_done e)) (λ n e. rw (step_refused m c n e) as_it_was)

  pub step_site : (step m c).1.pool.site ≡ m.pool.site
  step_site = by_number (λ e. rw (step_done m c e) (site_done e)) (λ n e. rw (step_refused m c n e) refl)

  pub beside : (r : Issued) (n : ℕ) → IsHeld r n m.pool.beside.held → KeptBeside m c r n
  beside r n h = by_number (λ e. spared_done e r n h) (λ k e. stays_beside (rw (step_refused m c k e) h))

  fate : (r : Issued) (n : ℕ) → IsHeld r n m.pool.held → (IsDone m c × Answered m r.link n c.act) ⊎ Kept m c r n
  fate r n h = by_number (λ e. go e (fate_done e r n h)) (λ k e. inr (stays (rw (step_refused m c k e) h)))
    where
      go : number_of m c ≡ none → Kept m c r n ⊎ Answered m r.link n c.act → (IsDone m c × Answered m r.link n c.act) ⊎ Kept m c r n
      go e (inl k) = inr k
      go e (inr a) = inl (number_done m c e, a)

  pub held : (r : Issued) (n : ℕ) → IsHeld r n m.pool.held → Fate m c r n
  held r n h = go (fate r n h)
    where
      go : (IsDone m c × Answered m r.link n c.act) ⊎ Kept m c r n → Fate m c r n
      go (inl a) = settled a.0 a.1
      go (inr k) = kept k

  pub apart : (r : Issued) (n : ℕ) → is_number r.link (packet_link c.act) ≡ false → IsHeld r n m.pool.held → Kept m c r n
  apart r n e h = go (fate r n h)
    where
      on_its_link : (act : Act) → Answered m r.link n act → is_number r.link (packet_link act) ≡ true
      on_its_link act (answered p q a t) = eq-eqb r.link r.link refl

      go : (IsDone m c × Answered m r.link n c.act) ⊎ Kept m c r n → Kept m c r n
      go (inl a) = not_both (on_its_link c.act a.1) e
      go (inr k) = k

  pub issued : IsDone m c → (k : ℕ) (i : Issued) → At i k (issued_by m c) → Kept m c i (m.pool.next + k)
  issued d = issued_done (done_number m c d)

  pub uncrowded : IsDone m c → (xs : List Issued) (i : Issued) (ys : List Issued) → issued_by m c ≡ xs ++ i ∷ ys → Crowded (issue_all xs (laid m c).leaves.pool) i.link → ⊥
  uncrowded d xs i ys e =
      let linked = here (done_number m c d) in
      never_crowded xs i ys (laid m c).leaves.pool (good_laid linked) (subst (Each (For (length (laid m c).leaves.pool.lost))) e (for_laid linked))

-- ---- from start

inside : (o : Option ℕ) (n p : ℕ) → maybe true (λ (q : ℕ). ltb q n) o ≡ true → o ≡ some p → p < n
inside none n p h e = absurd (let z : ◌≡◌ {A = ℕ} 0 1 = cc in omega arith)
inside (some q) n p h e = let same : q ≡ p = cc in omega (arith, ltb-true q n h)

begun_sound : (s : Start) (m : Machine) → Begins s (some m) → Sound m
begun_sound s m (begins allowed e g) =
    let a = both_second (leb 1 s.links) _ g in
    let b = both_second (leb s.links 4) _ a in
    let c = both_second (leb 1 s.period) _ (both_second (maybe true (λ (q : ℕ). ltb q s.links) s.primary) _ b) in
    let d = both_second (leb s.time last_time) _ (both_second (leb s.first last_sequence) _ (both_second (leb s.period 3600) _ c)) in
    record {
      good = record {
        own = record {
          few = omega (arith, length-replicate {A = ℕ} s.links 0, leb-true s.links 4 (both_first (leb s.links 4) _ a));
          links = no_more;
          most = λ l. omega arith;
          rising = ends {a = 0} (omega arith);
        };
        above = 0;
        other = record { few = omega arith; links = no_more; most = λ l. omega arith; rising = ends {a = 0} (omega arith) };
        all = omega arith;
        site = leb-true s.site 1 d;
      };
      alarms = no_more;
      counts = length-replicate {A = ℕ} s.links 0;
      primary = λ p f. inside s.primary s.links p (both_first (maybe true (λ (q : ℕ). ltb q s.links) s.primary) _ b) f;
    }

-- ---- with the other site
beside_sound : {s : Start} {m : Machine} (o : Machine) → Begins s (some m) → Sound m → Sound o → Sound (begins_beside (some o) m)
beside_sound o (begins allowed e g) x y =
    record {
      good = record {
        own = x.good.own;
        above = o.pool.next;
        other = y.good.own;
        all = omega (arith, y.good.all);
        site = x.good.site;
      };
      alarms = x.alarms;
      counts = x.counts;
      primary = x.primary;
    }

starts_sound : {r : Start} {o : Machine} (m : Machine) → Begins r (some o) → Sound m → Sound o → Sound (finds (begins_beside (some m) o) m)
starts_sound {o = o} m (begins allowed e g) x y =
    record {
      good = record {
        own = x.good.own;
        above = o.pool.next;
        other = y.good.own;
        all = omega (arith, x.good.all);
        site = x.good.site;
      };
      alarms = x.alarms;
      counts = x.counts;
      primary = x.primary;
    }

-- what a call of the other site leaves of this one's share
left_of : (m o : Machine) → Sound o → Neighbours m o → (c : Call) → Shrunk (own_of m.pool) (step o c).1.pool.beside
left_of m o y n c = subst (λ (x : Share). Shrunk x (step o c).1.pool.beside) n.own (step_beside o y c)

calls_sound : (m o : Machine) → Sound m → Sound o → Neighbours m o → (c : Call) → Sound (finds (step o c).1 m)
calls_sound m o x y n c =
    let z = step_sound o y c in
    record {
      good = record {
        own = shrunk_good (left_of m o y n c) x.good.own;
        above = (step o c).1.pool.next;
        other = z.good.own;
        all = omega (arith, z.good.all);
        site = x.good.site;
      };
      alarms = shrunk_each (left_of m o y n c) x.alarms;
      counts = shrunk_lost (left_of m o y n c) ∙ x.counts;
      primary = x.primary;
    }

pub run_sound : {s : Start} {h : List Past} {m : Machine} → Run s h m → Sound m
run_sound (begun b) = begun_sound _ _ b
run_sound (begun_beside {o = o} b r two) = beside_sound o b (begun_sound _ _ b) (run_sound r)
run_sound (next c r) = step_sound _ (run_sound r) c
run_sound (other_starts {m = m} r b two) = starts_sound m b (run_sound r) (begun_sound _ _ b)
run_sound (other_calls {m = m} {o = o} r q n c) = calls_sound m o (run_sound r) (run_sound q) n c

pub other_leaves : {r : Start} {g : List Past} {m o : Machine} → Run r g o → Neighbours m o → (c : Call) → Shrunk (own_of m.pool) (step o c).1.pool.beside
other_leaves {m = m} {o = o} q n c = left_of m o (run_sound q) n c

-- ---- each held record was issued, and what was issued is held, lost or answered
module _ {s : Start} {h : List Past} {m : Machine} (run : Run s h m) (c : Call) where
  from_done : number_of m c ≡ none → (r : Issued) (n : ℕ) → (IsHeld r n m.pool.held → IssuedIn s r n h) → IsHeld r n (after c.time (laid m c)).pool.held
      → IssuedIn s r n (past m c ∷ h)
  from_done e r n before k = go (all_origin (laid m c).issues (laid m c).leaves.pool (good_laid m (run_sound run) c linked) (for_laid m (run_sound run) c linked) r n k)
    where
      linked : (l : ℕ) → packet_link c.act ≡ some l → l < m.setup.links
      linked = here m (run_sound run) c e

      go : IsHeld r n (laid m c).leaves.pool.held ⊎ Placed r n (laid m c).leaves.pool.next (laid m c).issues → IssuedIn s r n (past m c ∷ h)
      go (inl x) = issued_before (before ((lay m (run_sound run) c linked).frame.origin r n x))
      go (inr x) = issued_now run (number_done m c e) x.at (omega (arith, x.number, (lay m (run_sound run) c linked).frame.next))

  from_call : (r : Issued) (n : ℕ) → (IsHeld r n m.pool.held → IssuedIn s r n h) → IsHeld r n (step m c).1.pool.held → IssuedIn s r n (past m c ∷ h)
  from_call r n before k =
      by_number m (run_sound run) c (λ e. from_done e r n before (rw (step_done m c e) at k)) (λ i e. issued_before (before (rw (step_refused m c i e) at k)))

pub issued_in : {s : Start} {h : List Past} {m : Machine} → Run s h m → (r : Issued) (n : ℕ) → IsHeld r n m.pool.held → IssuedIn s r n h
issued_in (begun (begins allowed e g)) r n (is_held_lem a x y z) = among_none a
issued_in (begun_beside (begins allowed e g) o two) r n (is_held_lem a x y z) = among_none a
issued_in (other_starts run b two) r n k = issued_in run r n k
issued_in (other_calls run q nb c) r n (is_held_lem a x y z) = issued_in run r n (is_held_lem (shrunk_among (other_leaves q nb c) a) x y z)
issued_in (next c run) r n k = from_call run c r n (λ x. issued_in run r n x) k

zeros : (n l : ℕ) → get_or {A = ℕ} (replicate n 0) l 0 ≡ 0
zeros zero l = refl
zeros (suc n) zero = refl
zeros (suc n) (suc l) = zeros n l

module _ {s : Start} {h : List Past} {m : Machine} (run : Run s h m) (c : Call) (l : ℕ) where
  abbrev Counted : Pool → ℕ → ℕ → Type 0
  Counted p a i = get_or p.lost l 0 + holds p l + a ≡ i

  count_done : number_of m c ≡ none → Counted m.pool (answered_count l run) (issued_count l run)
      → Counted (after c.time (laid m c)).pool (answered_count l run + answers_of m l c.act) (issued_count l run + issues_of m l c)
  count_done e before =
      let linked = here m (run_sound run) c e in
      omega (
        arith,
        before,
        all_counts (laid m c).issues (laid m c).leaves.pool (good_laid m (run_sound run) c linked) (for_laid m (run_sound run) c linked) l,
        ap (λ (xs : List ℕ). get_or xs l 0) (lay m (run_sound run) c linked).frame.lost,
        exact m l (run_sound run).primary c.time c.act linked,
      )

  count_call : Counted m.pool (answered_count l run) (issued_count l run)
      → Counted (step m c).1.pool (answered_count l run + if_done (step m c).0 (answers_of m l c.act)) (issued_count l run + if_done (step m c).0 (issues_of m l c))
  count_call before =
      by_number m (run_sound run) c (λ e. rw (step_done m c e) (count_done e before)) (λ i e. rw (step_refused m c i e) (omega (arith, before)))

pub lost_count : {s : Start} {h : List Past} {m : Machine} (run : Run s h m) (l : ℕ) → get_or m.pool.lost l 0 + holds m.pool l + answered_count l run ≡ issued_count l run
lost_count {s} (begun (begins allowed e g)) l = omega (arith, zeros s.links l)
lost_count {s} (begun_beside (begins allowed e g) o two) l = omega (arith, zeros s.links l)
lost_count (other_starts run b two) l = lost_count run l
lost_count (other_calls run q nb c) l = omega (arith, lost_count run l, shrunk_counts (other_leaves q nb c) (run_sound run).good.own l)
lost_count (next c run) l = count_call run c l (lost_count run l)
