-- A call of its site that leaves the link open: the record goes out, is lost, or waits on with no more ahead of it.
-- Assumes nothing.
use Rattle.basis.proofs.Std.{ℕ, ◌≤◌, ◌<◌, ◌≡◌, refl, sym, ◌∙◌, subst, Bool, false, List, [], ◌∷◌, some, none, ◌⊎◌, inl, inr, eqb, length, arith, eq-eqb, ne_eqb, le-leb, not-true, count, Among, bool_cases, eq_or_ne, both_false, not_both}
use Rattle.basis.specs.Lists.Among.{first, later}
use Rattle.machine.specs.Words.{is_number, any}
use Rattle.machine.specs.State.{Issued, issued_for, Held, held_as, Sent, Start, Machine, life_at, Act, Call}
use Rattle.machine.specs.State.Sent.{own_version, own_watchdog, no_record, the_record}
use Rattle.machine.specs.State.Act.{connect, disconnect, packet, alarm_input, status_value, aggregated_value, tick, pump}
use Rattle.machine.specs.Pool.{issue_all}
use Rattle.machine.specs.Effects.{closes, late, ticks, carried, effect_of}
use Rattle.machine.specs.Step.{conditions, number_of, step}
use Rattle.machine.specs.Run.{Past, past, Run}
use Rattle.machine.specs.Run.Run.{next}
use Rattle.demand_held.specs.Held.{IsHeld, newer, issued_by, Answered}
use Rattle.demand_held.specs.Held.IsHeld.{held}
use Rattle.demand_held.specs.Held.Answered.{answered}
use Rattle.demand_held.proofs.Lists.{bit_false, bit_le, Each}
use Rattle.demand_held.proofs.Good.{Good}
use Rattle.demand_held.proofs.Rising.{older, newer_older}
use Rattle.demand_held.proofs.Room.{Over}
use Rattle.demand_held.proofs.Issue.{For, Short, held_below, all_fate}
use Rattle.demand_held.proofs.Lays.{Lays, lays}
use Rattle.demand_held.proofs.Steps.{laid, step_done, step_refused, number_done, there}
use Rattle.demand_held.proofs.Demand.{run_sound}
use Rattle.demand_told.specs.Demand.{link_of}
use Rattle.demand_told.specs.Life.{ends}
use Rattle.demand_told.proofs.Replies.{none_at}
use Rattle.demand_told.proofs.Tests.{no_not}
use Rattle.demand_told.proofs.Lives.{apart_from}
use Rattle.demand_told.proofs.Apart.{apart}
use Rattle.demand_told.proofs.GreetedDemand.{same_setup, by_number}
use Rattle.demand_happens.specs.Pumped.{at}
use Rattle.demand_happens.specs.Records.{is_before}
use Rattle.demand_happens.proofs.Counts.{some_counted}
use Rattle.demand_happens.proofs.Round.{up_connected}
use Rattle.demand_carried.specs.Marked.{Awaits}
use Rattle.demand_carried.specs.Marked.Awaits.{awaits}
use Rattle.demand_carried.proofs.Lists.{found_among}
use Rattle.demand_carried.proofs.Marked.{demand_marked}
use Rattle.demand_issued.proofs.Fewer.{all_before, fewer}
use Rattle.demand_waits.specs.Waits.{is_pump_of, is_counted, Waits}
use Rattle.demand_waits.proofs.Counts.{same_passes}
use Rattle.demand_waits.proofs.Hears.{Like, same, hears}
use Rattle.demand_waits.proofs.Pumps.{Next, pump_turn}
use Rattle.demand_waits.proofs.Pumps.Next.{lost, on}

-- ---- what a done call lays down
module _ {s : Start} {h : List Past} {m : Machine} (r : Run s h m) (c : Call) (e : number_of m c ≡ none) where
  pub lay : Lays (λ l n. Answered m l n c.act) m (laid m c)
  lay = lays m (run_sound r).primary c.time c.act (there m c.time c.act (λ q. let z : ◌≡◌ {A = ℕ} 0 1 = cc in omega arith))

  pub good_laid : Good (laid m c).leaves.pool
  good_laid = lay.frame.good (run_sound r).good

  pub for_laid : Each (For (length (laid m c).leaves.pool.lost)) (laid m c).issues
  for_laid = rw (lay.frame.lost, (run_sound r).counts) lay.issued

-- ---- what is pushed out
count_most : {A : Type 0} (f : A → Bool) (xs : List A) → count f xs ≤ length xs
count_most f [] = omega arith
count_most f (x ∷ xs) = omega (arith, bit_le (f x), count_most f xs)

module _ (l : ℕ) (x : Held) (hs : List Held) (o : Over l x.sequence hs) where
  pub not_held : IsHeld (issued_for l x.content) x.sequence hs → ⊥
  not_held (held {h = h} a own content number) =
      omega (arith, o.none, some_counted (older l x.sequence) a (rw (eq-eqb h.link l own, le-leb h.sequence x.sequence (omega (arith, number)))))

  pub sixteen : 16 ≤ newer l x.sequence hs
  sixteen = omega (arith, o.none, o.many, newer_older l x.sequence hs)

is_record : {n : ℕ} (v : Sent) → carried v ≡ some n → v ≡ the_record n
is_record own_version e = absurd (let z : ◌≡◌ {A = ℕ} 0 1 = cc in omega arith)
is_record own_watchdog e = absurd (let z : ◌≡◌ {A = ℕ} 0 1 = cc in omega arith)
is_record no_record e = absurd (let z : ◌≡◌ {A = ℕ} 0 1 = cc in omega arith)
is_record (the_record n) e = cc

same_held : (x y : Held) → y.link ≡ x.link → y.content ≡ x.content → y.sequence ≡ x.sequence → y.sent ≡ x.sent
    → held_as y.link y.content y.sequence y.sent ≡ held_as x.link x.content x.sequence x.sent
same_held x y a b c d = rw (a, b, c, d)

-- ---- a done call
module _ (l : ℕ) (x : Held) {s : Start} {h : List Past} {m : Machine} (r : Run s h m) (w : Waits l x m) where
  -- no answer is awaited for it
  unawaited : {P : Type 0} → Awaits x.sequence (life_at m l).awaited → P
  unawaited a = not_both (demand_marked.awaited_is_marked s h m r l x w.held a).1 w.unsent

  module _ (c : Call) (e : number_of m c ≡ none) where
    abbrev End : List Held
    End = (issue_all (laid m c).issues (laid m c).leaves.pool).held

    below : x.sequence < (laid m c).leaves.pool.next
    below = omega (arith, held_below m.pool (run_sound r).good (issued_for l x.content) x.sequence (held w.held w.link refl refl), (lay r c e).frame.next)

    issues_one : Short (laid m c).issues (laid m c).leaves.pool l → 1 ≤ length (issued_by m c)
    issues_one (inl f) = omega (arith, f, (good_laid r c e).own.most l, count_most (λ (i : Issued). eqb i.link l) (laid m c).issues)
    issues_one (inr f) = omega (arith, f, (good_laid r c e).all)

    not_answered : {P : Type 0} {act : Act} → Answered m l x.sequence act → P
    not_answered (answered {j = j} {a = a} p q f g) = unawaited (awaits (found_among _ (life_at m l).awaited a f).0 (is_record a.message g))

    module _ (like : Like m l w.up (life_at (laid m c).leaves l)) (few : count (is_before l x.sequence) (laid m c).leaves.pool.held ≤ count (is_before l x.sequence) m.pool.held)
        (no-pump : is_pump_of l c.act ≡ false) where
      life : Like m l w.up (life_at (step m c).1 l)
      life = rw (step_done m c e) like

      uncounted : is_counted l (past m c) ≡ false
      uncounted = rw no-pump

      fewer_now : count (is_before l x.sequence) (step m c).1.pool.held ≤ count (is_before l x.sequence) m.pool.held
      fewer_now = rw (step_done m c e) (omega (arith, few, all_before l x.sequence (laid m c).issues (laid m c).leaves.pool below))

      unsent_now : (y : Held) → Among y (step m c).1.pool.held → y.link ≡ l → y.sequence ≡ x.sequence → y.sent ≡ false
      unsent_now y a own number =
          bool_cases y.sent
          (λ f. unawaited (life.awaited x.sequence (rw (own, number) at (demand_marked.marked_is_awaited s (past m c ∷ h) (step m c).1 (next c r) y a f))))
          (λ f. f)

      still : IsHeld (issued_for l x.content) x.sequence (step m c).1.pool.held → Next l x m c
      still (held {h = y} a own content number) =
          on {c = c} (record {
            configured = rw (same_setup r c) w.configured;
            up = life.still_up;
            held = subst (λ (z : Held). Among z (step m c).1.pool.held) (same_held x y (own ∙ sym w.link) content number (unsent_now y a own number ∙ sym w.unsent)) a;
            link = w.link;
            unsent = w.unsent;
          }) (omega (arith, same_passes r c l, life.pass, fewer_now, bit_false (is_counted l (past m c)) uncounted))

      pub done_turn : Next l x m c
      done_turn = go ((lay r c e).frame.spared (issued_for l x.content) x.sequence (held w.held w.link refl refl))
        where
          pushed : IsHeld (issued_for l x.content) x.sequence End ⊎ (Over l x.sequence End × Short (laid m c).issues (laid m c).leaves.pool l) → Next l x m c
          pushed (inl k) = still (rw (step_done m c e) k)
          pushed (inr o) =
              lost {c = c} (record {
                done = number_done m c e;
                issues = issues_one o.1;
                gone = rw (step_done m c e) (not_held l x End o.0);
                newer_ones_lem = rw (step_done m c e) (sixteen l x End o.0);
              })

          go : IsHeld (issued_for l x.content) x.sequence (laid m c).leaves.pool.held ⊎ Answered m l x.sequence c.act → Next l x m c
          go (inl k) = pushed (all_fate (laid m c).issues (laid m c).leaves.pool (good_laid r c e) (for_laid r c e) (issued_for l x.content) x.sequence k)
          go (inr a) = not_answered a

  -- ---- which call it is
  pumps_not : (act : Act) → is_number l (link_of act) ≡ false → is_pump_of l act ≡ false
  pumps_not (connect k) e = refl
  pumps_not (disconnect k) e = refl
  pumps_not (packet k random bytes room) e = refl
  pumps_not (alarm_input i active) e = refl
  pumps_not (status_value i v) e = refl
  pumps_not (aggregated_value v) e = refl
  pumps_not tick e = refl
  pumps_not (pump k random room) e = ne_eqb k l (apart_from k l e)

  by_link : (P : ℕ → Type 0) (k : ℕ) → P l → (eqb l k ≡ false → P k) → P k
  by_link P k own other = go (eq_or_ne k l)
    where
      go : (k ≡ l) ⊎ (k ≡ l → ⊥) → P k
      go (inl e) = rw e own
      go (inr n) = other (ne_eqb l k (λ e. n (sym e)))

  module _ (t : ℕ) where
    abbrev Open : Act → Type 0
    Open act = any (eqb l) (effect_of m t act).closed ≡ false

    elsewhere : (act : Act) → number_of m (at t act) ≡ none → is_number l (link_of act) ≡ false → (act ≡ tick → any (eqb l) (late t m) ≡ false) → Next l x m (at t act)
    elsewhere act e o on_time =
        done_turn (at t act) e (rw (apart m t act l o on_time).life (same m l w.up)) (fewer l x.sequence m t act o on_time) (pumps_not act o)

    abbrev Turns : Act → Type 0
    Turns act = number_of m (at t act) ≡ none → Open act → Next l x m (at t act)

    turn : (act : Act) → Turns act
    unfolding conditions effect_of closes ticks
    turn (connect k) =
        by_link (λ k. Turns (connect k)) k
        (λ e f. not_both (up_connected (life_at m l) w.up) (not-true (life_at m l).connected (no_not _ (none_at (conditions m t (connect l)) e (later (later first))))))
        (λ o e f. elsewhere (connect k) e o (λ g. absurd (let z : ◌≡◌ {A = ℕ} 0 1 = cc in omega arith)))
    turn (disconnect k) =
        by_link (λ k. Turns (disconnect k)) k (λ e f. not_both (rw (eq-eqb l l refl)) f)
        (λ o e f. elsewhere (disconnect k) e o (λ g. absurd (let z : ◌≡◌ {A = ℕ} 0 1 = cc in omega arith)))
    turn (packet k random bytes room) =
        by_link (λ k. Turns (packet k random bytes room)) k
        (λ e f. let a = hears m l w.up t room random bytes f in done_turn (at t (packet l random bytes room)) e a.life (a.fewer x.sequence) refl)
        (λ o e f. elsewhere (packet k random bytes room) e o (λ g. absurd (let z : ◌≡◌ {A = ℕ} 0 1 = cc in omega arith)))
    turn (alarm_input i active) = λ e f. elsewhere (alarm_input i active) e refl (λ g. absurd (let z : ◌≡◌ {A = ℕ} 0 1 = cc in omega arith))
    turn (status_value i v) = λ e f. elsewhere (status_value i v) e refl (λ g. absurd (let z : ◌≡◌ {A = ℕ} 0 1 = cc in omega arith))
    turn (aggregated_value v) = λ e f. elsewhere (aggregated_value v) e refl (λ g. absurd (let z : ◌≡◌ {A = ℕ} 0 1 = cc in omega arith))
    turn tick = λ e f. elsewhere tick e refl (λ g. f)
    turn (pump k random room) =
        by_link (λ k. Turns (pump k random room)) k (λ e f. pump_turn l x r w t room random e)
        (λ o e f. elsewhere (pump k random room) e o (λ g. absurd (let z : ◌≡◌ {A = ℕ} 0 1 = cc in omega arith)))

  pub own_call : (c : Call) → ends l (past m c) ≡ false → Next l x m c
  own_call c f =
      by_number m c
      (λ e. turn c.time c.act e (rw (step_done m c e) at f))
      (λ n e. on {c = c} (rw (step_refused m c n e) w) (rw (step_refused m c n e) (omega (arith, bit_false _ (both_false (is_pump_of l c.act))))))
