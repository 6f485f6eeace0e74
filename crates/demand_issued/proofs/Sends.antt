-- Each held record of an Up link goes out or is pushed out, with other calls between the rounds, and in every new life.
-- Assumes nothing.
use Rattle.basis.proofs.Std.{ℕ, ◌≤◌, ◌<◌, ◌≡◌, refl, sym, ◌∙◌, ap, subst, Bool, true, false, List, [], ◌∷◌, some, none, ◌⊎◌, inl, inr, eqb, length, arith, eq-eqb, le-leb, count, Among}
use Rattle.machine.specs.Words.{is_number, any, up_to}
use Rattle.machine.specs.State.{issued_for, Held, held_as, Start, Machine, life_at, Act, Call, Outcome}
use Rattle.machine.specs.State.Outcome.{refused}
use Rattle.machine.specs.State.Act.{connect, disconnect, packet, alarm_input, status_value, aggregated_value, tick, pump}
use Rattle.machine.specs.Life.{is_late, pass_length}
use Rattle.machine.specs.Effects.{late}
use Rattle.machine.specs.Step.{number_of, outcome, step, leaves}
use Rattle.machine.specs.Run.{Past, past, Run}
use Rattle.machine.specs.Run.Run.{next}
use Rattle.demand_held.specs.Held.{IsHeld, Kept, packet_link}
use Rattle.demand_held.specs.Held.IsHeld.{held}
use Rattle.demand_held.specs.Held.Kept.{stays, pushed}
use Rattle.demand_held.proofs.Issue.{held_below}
use Rattle.demand_held.proofs.Steps.{laid, step_done, step_refused, there}
use Rattle.demand_held.proofs.Lays.{lays}
use Rattle.demand_held.proofs.Demand.{run_sound, demand3}
use Rattle.demand_told.specs.Demand.{link_of}
use Rattle.demand_told.proofs.GreetedDemand.{same_setup, by_number}
use Rattle.demand_happens.specs.Pumped.{at}
use Rattle.demand_happens.specs.Greeting.{Meanwhile}
use Rattle.demand_happens.specs.Greeting.Meanwhile.{not_done, elsewhere, not_acknowledged}
use Rattle.demand_happens.specs.Records.{is_before, ahead, GoesOut}
use Rattle.demand_happens.specs.Records.GoesOut.{later}
use Rattle.demand_happens.proofs.Counts.{some_counted}
use Rattle.demand_happens.proofs.After.{unkept, refused_step, meanwhile_life}
use Rattle.demand_happens.proofs.Example.{goes_on_lem}
use Rattle.demand_happens.proofs.Greeting.{greeting}
use Rattle.demand_happens.proofs.Records.{Waits, Turn, turn, beaten}
use Rattle.demand_happens.proofs.Records.Turn.{out, on}
use Rattle.demand_carried.proofs.Marks.{awaits_none}
use Rattle.demand_carried.proofs.Marked.{demand_marked}
use Rattle.demand_issued.specs.Sends.{RoundsAmong, PushedOut, DemandSends}
use Rattle.demand_issued.specs.Sends.RoundsAmong.{over, between, round, beat}
use Rattle.demand_issued.specs.Sends.PushedOut.{pushed_now, pushed_later}
use Rattle.demand_issued.proofs.Goes.{run_kept}
use Rattle.demand_issued.proofs.Fewer.{all_before, fewer}

-- of a link that awaits nothing no record is marked sent
unsent_there : {s : Start} {h : List Past} {m : Machine} → Run s h m → (l : ℕ) → (life_at m l).awaited ≡ [] → (x : Held) → Among x m.pool.held → x.link ≡ l → x.sent ≡ false
unsent_there {s} {h} {m} r l quiet x a own = go x.sent refl
  where
    go : (b : Bool) → x.sent ≡ b → x.sent ≡ false
    go true e = awaits_none (rw (own, quiet) at (demand_marked.marked_is_awaited s h m r x a e))
    go false e = e

packet_apart : (l : ℕ) (act : Act) → is_number l (link_of act) ≡ false → is_number l (packet_link act) ≡ false
packet_apart l (connect k) e = refl
packet_apart l (disconnect k) e = refl
packet_apart l (packet k random bytes room) e = e
packet_apart l (alarm_input i active) e = refl
packet_apart l (status_value i v) e = refl
packet_apart l (aggregated_value v) e = refl
packet_apart l tick e = refl
packet_apart l (pump k random room) e = refl

same_held : (x y : Held) → y.link ≡ x.link → y.content ≡ x.content → y.sequence ≡ x.sequence → y.sent ≡ x.sent
    → held_as y.link y.content y.sequence y.sent ≡ held_as x.link x.content x.sequence x.sent
same_held x y a b c d = rw (a, b, c, d)

module _ (l : ℕ) (x : Held) where
  -- it waits on with no more ahead, or is pushed out
  abbrev After : Machine → Call → Type 0
  After m c = (Waits l x (step m c).1 × (ahead (step m c).1 l x ≤ ahead m l x)) ⊎ ((cs : List Call) → PushedOut l x m (c ∷ cs))

  module _ {s : Start} {h : List Past} {m : Machine} (r : Run s h m) (w : Waits l x m) (c : Call) where
    unchanged : (step m c).1 ≡ m → After m c
    unchanged e = inl (rw e (w, omega arith))

    refused_on : (n : ℕ) → number_of m c ≡ some n → After m c
    refused_on n e = unchanged (ap (λ (q : Outcome × Machine). q.1) (step_refused m c n e))

    module _ (life : life_at (step m c).1 l ≡ life_at m l) where
      as_many : count (is_before l x.sequence) (step m c).1.pool.held ≤ count (is_before l x.sequence) m.pool.held → ahead (step m c).1 l x ≤ ahead m l x
      as_many few = omega (arith, few, passes, ap (λ k. k.pass) life)
        where
          alarms : length (step m c).1.alarms ≡ length m.alarms
          alarms = (run_kept (next c r)).alarm_count ∙ ap (λ u. length u.table.alarms) (same_setup r c) ∙ sym (run_kept r).alarm_count

          passes : pass_length (step m c).1 l ≡ pass_length m l
          passes = rw (same_setup r c, alarms)

      still : IsHeld (issued_for l x.content) x.sequence (step m c).1.pool.held → Waits l x (step m c).1
      still (held {h = y} a own content number) =
          record {
            configured = rw (same_setup r c) w.configured;
            up = rw life w.up;
            alone = rw life w.alone;
            among = subst (λ (z : Held). Among z (step m c).1.pool.held) (same_held x y (own ∙ sym w.link) content number (unsent ∙ sym w.unsent)) a;
            link = w.link;
            unsent = w.unsent;
          }
        where
          unsent : y.sent ≡ false
          unsent = unsent_there (next c r) l (rw life w.alone) y a own

    elsewhere_on : is_number l (link_of c.act) ≡ false → (c.act ≡ tick → any (eqb l) (late c.time m) ≡ false) → life_at (step m c).1 l ≡ life_at m l → number_of m c ≡ none → After m c
    elsewhere_on o on_time life e =
        go ((demand3.of_every_run s h m r).apart c (issued_for l x.content) x.sequence (packet_apart l c.act o) (held w.among w.link refl refl))
      where
        below : x.sequence < (laid m c).leaves.pool.next
        below =
            omega (
              arith,
              held_below m.pool (run_sound r).good (issued_for l x.content) x.sequence (held w.among w.link refl refl),
              (lays m (run_sound r).primary c.time c.act (there m c.time c.act (λ f. let z : ◌≡◌ {A = ℕ} 0 1 = cc in omega arith))).frame.next,
            )

        few : count (is_before l x.sequence) (step m c).1.pool.held ≤ count (is_before l x.sequence) m.pool.held
        few = rw (step_done m c e) (omega (arith, all_before l x.sequence (laid m c).issues (laid m c).leaves.pool below, fewer l x.sequence m c.time c.act o on_time))

        go : Kept m c (issued_for l x.content) x.sequence → After m c
        go (stays y) = inl (still life y, as_many life few)
        go (pushed d room many) = inr (λ cs. pushed_now d room many)

    meanwhile_on : Meanwhile l m c → After m c
    meanwhile_on (not_done {n} d) =
        by_number m c
        (λ e. let g : outcome (laid m c) ≡ refused n = rw (step_done m c e) at d in absurd (let z : ◌≡◌ {A = ℕ} 0 1 = cc in omega arith))
        refused_on
    meanwhile_on (elsewhere o short) =
        by_number m c
        (elsewhere_on o (λ i. unkept (λ k. is_late c.time (life_at m k)) l (up_to m.setup.links) (short i)) (meanwhile_life l m c (elsewhere o short)))
        refused_on
    meanwhile_on (not_acknowledged {m_id} {reason} d) =
        inl (rw (refused_step m c.time m_id reason c.act d)
        (record { configured = w.configured; up = w.up; alone = w.alone; among = w.among; link = w.link; unsent = w.unsent }, omega arith))

  abbrev Ends : Machine → List Call → Type 0
  Ends m cs = GoesOut l x m cs ⊎ PushedOut l x m cs

  and_later : {m : Machine} {c : Call} {cs : List Call} → Ends (step m c).1 cs → Ends m (c ∷ cs)
  and_later (inl g) = inl (later g)
  and_later (inr g) = inr (pushed_later g)

  goes : {s : Start} {m : Machine} {h : List Past} {n : ℕ} {cs : List Call} → Run s h m → Waits l x m → RoundsAmong l m n cs → ahead m l x ≤ n → Ends m cs
  goes r w (over {m}) few =
      absurd (omega (arith, few, some_counted (is_before l x.sequence) w.among (rw (eq-eqb x.link l w.link, w.unsent, le-leb x.sequence x.sequence (omega arith)))))
  goes r w (between {m} {n} {c} {cs} meanwhile rest) few = by (meanwhile_on r w c meanwhile) (λ v k. goes (next c r) v rest k)
    where
      by : After m c → (Waits l x (step m c).1 → ahead (step m c).1 l x ≤ n → Ends (step m c).1 cs) → Ends m (c ∷ cs)
      by (inl v) g = and_later (g v.0 (omega (arith, few, v.1)))
      by (inr p) g = inr (p cs)
  goes r w (round {m} {n} {t} {room} {s} {place} {random} {other} {bytes} {j} {cs} is-round early rest) few =
      by (turn l x r w t room s place random other bytes j is-round early)
      (λ v k. goes (next (at s (packet l other bytes place)) (next (at t (pump l random room)) r)) v rest k)
    where
      by : Turn l x m t room random (step (step m (at t (pump l random room))).1 (at s (packet l other bytes place))).1
          → (Waits l x (step (step m (at t (pump l random room))).1 (at s (packet l other bytes place))).1
          → ahead (step (step m (at t (pump l random room))).1 (at s (packet l other bytes place))).1 l x ≤ n
          → Ends (step (step m (at t (pump l random room))).1 (at s (packet l other bytes place))).1 cs)
          → Ends m (at t (pump l random room) ∷ at s (packet l other bytes place) ∷ cs)
      by (out f) g = inl (f (at s (packet l other bytes place) ∷ cs))
      by (on v less) g = and_later (and_later (g v (omega (arith, few, less))))
  goes r w (beat {m} {n} {t} {room} {s} {place} {random} {other} {bytes} {j} {cs} is-round late rest) few =
      let b = beaten l x r w t room s place random other bytes j is-round late in
      and_later (and_later (goes (next (at s (packet l other bytes place)) (next (at t (pump l random room)) r)) b.0 rest (omega (arith, few, b.1))))

on_setup : {s : Start} {m : Machine} {h : List Past} → Run s h m → (cs : List Call) → (leaves m cs).setup ≡ m.setup
on_setup r [] = refl
on_setup {m = m} {h = h} r (c ∷ cs) = on_setup {m = (step m c).1} {h = past m c ∷ h} (next c r) cs ∙ same_setup r c

pub demand_sends : DemandSends
demand_sends =
    record {
      goes_out_among = λ s h m r l here up alone x a own n cs rounds few.
          goes l x r (record { configured = here; up = up; alone = alone; among = a; link = own; unsent = unsent_there r l alone x a own }) rounds few;
      sent_again = λ s h m r l here is_down_lem calls greets x a own n cs rounds few.
          let up = greeting.comes_up s h m r l here is_down_lem calls greets in
          let on = goes_on_lem r calls in
          goes l x on (record { configured = rw (on_setup r calls) here; up = up.0; alone = up.1; among = a; link = own; unsent = unsent_there on l up.1 x a own }) rounds few;
    }
