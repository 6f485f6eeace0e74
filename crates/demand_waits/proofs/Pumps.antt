-- A done pump of an Up link sends the record, or a Watchdog, or one message that stood before it.
-- Assumes nothing.
use Rattle.basis.proofs.Std.{ℕ, suc, ◌+◌, ◌-◌, ◌≤◌, ◌<◌, ◌≡◌, refl, sym, ◌∙◌, ap, true, false, not, List, [], ◌∷◌, some, none, ◌⊎◌, inl, inr, eqb, ltb, arith, eq-eqb, eqb-true, le-leb, ltb-true, both, bit, count, Among, bool_cases, eq_or_ne, lt_or_ge, both_true, both_false}
use Rattle.machine.specs.Words.{Bytes, maybe}
use Rattle.machine.specs.State.{Held, Sent, Life, Start, Machine, life_at, alarm_at, Call, Outcome}
use Rattle.machine.specs.State.Sent.{no_record, the_record}
use Rattle.machine.specs.State.Act.{pump}
use Rattle.machine.specs.State.Outcome.{done}
use Rattle.machine.specs.Life.{same_alarm, alarm_in, carried_by, pass_length, awaiting, Due, due}
use Rattle.machine.specs.Life.Due.{the_watchdog, the_aggregated, the_alarm, the_held}
use Rattle.machine.specs.Messages.{record_message}
use Rattle.machine.specs.Effects.{own_identity, due_message, sent_as, after_sending, sends}
use Rattle.machine.specs.Step.{number_of, after, step}
use Rattle.machine.specs.Run.{Past, past, Run}
use Rattle.demand_held.proofs.Lists.{bit_false, bit_le, among_last}
use Rattle.demand_held.proofs.Steps.{step_done}
use Rattle.demand_held.proofs.Demand.{run_sound}
use Rattle.demand_told.proofs.Apart.{mark_lives}
use Rattle.demand_told.proofs.GreetedDemand.{same_setup}
use Rattle.demand_happens.specs.Pumped.{at}
use Rattle.demand_happens.specs.Records.{next_beat, is_before, ahead}
use Rattle.demand_happens.proofs.Pumped.{pump_effect}
use Rattle.demand_happens.proofs.Counts.{one_number, Oldest, oldest}
use Rattle.demand_happens.proofs.Round.{up_connected, sent_up, marked_by, mark_held}
use Rattle.demand_happens.proofs.Records.{own_message, Carries, carries_what, due_beat, due_aggregated, due_alarm, due_record, pass_some}
use Rattle.demand_happens.proofs.Records.Carries.{nothing, one}
use Rattle.demand_carried.proofs.Marks.{set_got}
use Rattle.demand_carried.proofs.Goes.{sending_awaited}
use Rattle.demand_waits.specs.Waits.{is_counted, Waits, IsLost}
use Rattle.demand_waits.proofs.Counts.{count_marked, count_one_marked, still_marked, same_passes}

-- what a call of its site does to a record that waits
module _ (l : ℕ) (x : Held) where
  pub data Next (m : Machine) : Call → Type 0 where
    out : {t room : ℕ} {random : Bytes}
        → (step m (at t (pump l random room))).0 ≡ done (record_message m.setup.table (own_identity random) x.content ∷ []) [] none []
        → Among (record { identity = own_identity random; time = t; message = the_record x.sequence }) (life_at (step m (at t (pump l random room))).1 l).awaited
        → Next m (at t (pump l random room))
    lost : {c : Call} → IsLost l x m c (step m c).1.pool.held → Next m c
    on : {c : Call} → Waits l x (step m c).1 → ahead (step m c).1 l x + bit (is_counted l (past m c)) ≤ ahead m l x → Next m c

  module _ {s : Start} {h : List Past} {m : Machine} (r : Run s h m) (w : Waits l x m) (t room : ℕ) (random : Bytes) (is_done : number_of m (at t (pump l random room)) ≡ none) where
    abbrev this : Call
    this = at t (pump l random room)

    abbrev end : Machine
    end = (step m this).1

    module _ (d : Due) (is : due m l t ≡ some d) where
      both_parts : step m this ≡ (done (due_message m t (own_identity random) d ∷ []) [] none [], after t (sends l t (own_identity random) m d))
      unfolding sends
      both_parts = rw (step_done m this is_done, pump_effect m l t room random d is)

      gave : (step m this).0 ≡ done (due_message m t (own_identity random) d ∷ []) [] none []
      gave = ap (λ (q : Outcome × Machine). q.0) both_parts

      end_is : end ≡ after t (sends l t (own_identity random) m d)
      end_is = ap (λ (q : Outcome × Machine). q.1) both_parts

      abbrev sent_life : Life
      sent_life = awaiting (own_identity random) t (sent_as m l d) (after_sending t d (life_at m l))

      life : life_at end l ≡ sent_life
      unfolding sends
      life = rw (end_is, mark_lives (sent_as m l d) m) (set_got l sent_life m.lives (up_connected (life_at m l) w.up))

      held_is : end.pool.held ≡ marked_by (sent_as m l d) m.pool.held
      unfolding sends
      held_is = rw end_is (mark_held m (sent_as m l d))

      pass_is : (life_at end l).pass ≡ (after_sending t d (life_at m l)).pass
      pass_is = ap (λ (k : Life). k.pass) life

      waits_on : Among x end.pool.held → Waits l x end
      waits_on a =
          record {
            configured = rw (same_setup r this) w.configured;
            up = rw life (sent_up t d (life_at m l) w.up);
            held = a;
            link = w.link;
            unsent = w.unsent;
          }

      goes : due_message m t (own_identity random) d ≡ record_message m.setup.table (own_identity random) x.content → sent_as m l d ≡ the_record x.sequence → Next m this
      goes same carried =
          out {t = t} {room = room} {random = random} (rw (← same) gave) (rw (life, sending_awaited t d (life_at m l), carried) (among_last (life_at m l).awaited _))

      -- a message of the pass that carries no record, or another one
      passing : (after_sending t d (life_at m l)).pass ≡ suc (life_at m l).pass → (life_at m l).pass < pass_length m l → Among x end.pool.held
          → count (is_before l x.sequence) end.pool.held ≤ count (is_before l x.sequence) m.pool.held → Next m this
      passing one_more left a few =
          on (waits_on a) (omega (arith, bit_le (is_counted l (past m this)), same_passes r this l, pass_is, one_more, left, few))

    own_one : (y : Held) → Among y m.pool.held → x.sequence ≡ y.sequence → x ≡ y
    own_one y a e = one_number (run_sound r).good.own.rising w.held a e

    watchdog_turn : due m l t ≡ some the_watchdog → Next m this
    watchdog_turn is =
        on (waits_on the_watchdog is (rw (held_is the_watchdog is) w.held))
        (omega (arith, bit_false (is_counted l (past m this)) uncounted, same_passes r this l, pass_is the_watchdog is, ap (count (is_before l x.sequence)) (held_is the_watchdog is)))
      where
        uncounted : is_counted l (past m this) ≡ false
        uncounted = rw (gave the_watchdog is) (both_false (eqb l l))

    aggregated_turn : due m l t ≡ some the_aggregated → (life_at m l).pass < pass_length m l → Next m this
    aggregated_turn is left =
        passing the_aggregated is refl left (rw (held_is the_aggregated is) w.held) (rw (held_is the_aggregated is) (omega arith))

    alarm_turn : (i : ℕ) → due m l t ≡ some (the_alarm i) → (life_at m l).pass < pass_length m l → Next m this
    alarm_turn i is left = go (carried_by m l i) refl (carries_what m l i)
      where
        held_now : (v : Sent) → carried_by m l i ≡ v → end.pool.held ≡ marked_by v m.pool.held
        held_now v e = held_is (the_alarm i) is ∙ ap (λ (q : Sent). marked_by q m.pool.held) e

        by : (y : Held) → Among y m.pool.held → maybe false (same_alarm (alarm_at m i)) (alarm_in i y.content) ≡ true → carried_by m l i ≡ the_record y.sequence
            → (x.sequence ≡ y.sequence) ⊎ (x.sequence ≡ y.sequence → ⊥) → Next m this
        by y a same f (inl q) =
            goes (the_alarm i) is (own_message m.setup.table (own_identity random) i (alarm_at m i) x.content (rw (own_one y a q) same)) (f ∙ ap the_record (sym q))
        by y a same f (inr n) =
            passing (the_alarm i) is refl left (rw (held_now (the_record y.sequence) f) (still_marked l y.sequence w.held n))
            (rw (held_now (the_record y.sequence) f) (count_marked l y.sequence x.sequence m.pool.held))

        go : (v : Sent) → carried_by m l i ≡ v → Carries m l i v → Next m this
        go v f nothing = passing (the_alarm i) is refl left (rw (held_now no_record f) w.held) (rw (held_now no_record f) (omega arith))
        go v f (one y a same) = by y a same f (eq_or_ne x.sequence y.sequence)

    record_turn : (o : Oldest (λ (y : Held). both (eqb y.link l) (not y.sent)) x m.pool.held) → due m l t ≡ some (the_held o.one) → Next m this
    record_turn o is = go (eq_or_ne x.sequence o.one.sequence)
      where
        y : Held
        y = o.one

        parts : (eqb y.link l ≡ true) × (not y.sent ≡ true)
        parts = both_true (eqb y.link l) _ o.passes

        before : is_before l x.sequence y ≡ true
        before = rw (parts.0, parts.1, le-leb y.sequence x.sequence o.older)

        fewer : suc (count (is_before l x.sequence) end.pool.held) ≤ count (is_before l x.sequence) m.pool.held
        fewer = rw (held_is (the_held y) is) (count_one_marked l y.sequence x.sequence o.among before refl)

        go : (x.sequence ≡ y.sequence) ⊎ (x.sequence ≡ y.sequence → ⊥) → Next m this
        go (inl q) = goes (the_held y) is (ap (λ (z : Held). record_message m.setup.table (own_identity random) z.content) (sym (own_one y o.among q))) (ap the_record (sym q))
        go (inr n) =
            on (waits_on (the_held y) is (rw (held_is (the_held y) is) (still_marked l y.sequence w.held n)))
            (omega (arith, bit_le (is_counted l (past m this)), same_passes r this l, pass_is (the_held y) is, fewer))

    pub pump_turn : Next m this
    pump_turn = go (lt_or_ge t (next_beat m l))
      where
        first : Oldest (λ (y : Held). both (eqb y.link l) (not y.sent)) x m.pool.held
        first = oldest (λ (y : Held). both (eqb y.link l) (not y.sent)) m.pool.held (run_sound r).good.own.rising w.held (rw (eq-eqb x.link l w.link, w.unsent))

        go : (t < next_beat m l) ⊎ (next_beat m l ≤ t) → Next m this
        go (inr late) = watchdog_turn (due_beat m l t w.up late)
        go (inl early) =
            bool_cases (eqb (life_at m l).pass 0)
            (λ e. aggregated_turn (due_aggregated m l t w.up early e) (omega (arith, eqb-true (life_at m l).pass 0 e, pass_some m l)))
            (λ e. bool_cases (ltb (life_at m l).pass (pass_length m l))
            (λ f. alarm_turn ((life_at m l).pass - 1) (due_alarm m l t w.up early e f) (ltb-true (life_at m l).pass (pass_length m l) f))
            (λ f. record_turn first (due_record m l t w.up early e f first.one first.found)))
