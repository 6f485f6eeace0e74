-- What is written reads back, over every run.
-- Assumes nothing.
use Rattle.basis.proofs.Std.{ℕ, ◌≤◌, ◌≡◌, refl, subst, true, false, List, [], Option, some, none, leb, ltb, ℤ, length-map, arith, leb-true, ltb-false, Among, both_true}
use Rattle.basis.specs.Lists.Among.{first as here, later}
use Rattle.answer.specs.Times.{last_time}
use Rattle.identity.specs.Read.{SixteenBytes}
use Rattle.json_value.specs.Grammar.{Json}
use Rattle.table_whole.specs.Table.{Row, Table}
use Rattle.table_whole.specs.Allowed.{Allowed}
use Rattle.write_message.specs.Message.{Message}
use Rattle.write_laws.specs.Formed.{Formed}
use Rattle.write_laws.specs.Formed.FormedValue.{unknown}
use Rattle.write_laws.proofs.Kept.{kept}
use Rattle.machine.specs.Words.{Bytes, maybe, first_of}
use Rattle.machine.specs.State.{alarm_of, Start, Machine, life_at, Act, Call, only}
use Rattle.machine.specs.State.Event.{Issue}
use Rattle.machine.specs.State.Act.{connect, disconnect, packet, alarm_input, status_value, aggregated_value, tick, pump}
use Rattle.machine.specs.Table.{last_sequence, good_start, first}
use Rattle.machine.specs.Table.Begins.{begins}
use Rattle.machine.specs.Life.{Due, due}
use Rattle.machine.specs.Json.{read_packet}
use Rattle.machine.specs.Answers.{is_ignored}
use Rattle.machine.specs.Effects.{connects, closes, own_identity, sends, effect_of}
use Rattle.machine.specs.Step.{bad_time, conditions, step}
use Rattle.machine.specs.Run.{Past, Run}
use Rattle.machine.specs.Run.Run.{begun, begun_beside, next, other_starts, other_calls}
use Rattle.demand_held.proofs.Lists.{maybe_cases, each_of}
use Rattle.demand_held.proofs.Lists.Each.{no_more}
use Rattle.demand_held.proofs.Shrunk.{shrunk_each}
use Rattle.demand_held.proofs.Demand.{other_leaves}
use Rattle.demand_held.proofs.Steps.{step_done, step_refused}
use Rattle.demand_told.specs.Demand.{messages_of, link_of}
use Rattle.demand_told.proofs.Demand.{telling}
use Rattle.demand_told.proofs.Replies.{none_at, nobody}
use Rattle.demand_told.proofs.Tests.{neither}
use Rattle.demand_told.proofs.GreetedDemand.{by_number}
use Rattle.demand_told.specs.Typed.{Typed, EachTyped}
use Rattle.demand_told.specs.Typed.EachTyped.{none_yet, one_more as typed_too}
use Rattle.demand_told.specs.ReadDemand.{ReadsBack, DemandRead}
use Rattle.demand_told.proofs.Sane.{Sane, sane_pool, sane_after}
use Rattle.demand_told.proofs.Lays.{lays}
use Rattle.demand_told.proofs.Formed.{sixteen_still, due_formed}
use Rattle.demand_told.proofs.ReadReplies.{EachFormed, received_formed}

-- ---- a done call's time
good_time : (m : Machine) (t : ℕ) → bad_time m t ≡ false → t ≤ last_time
good_time m t e = ltb-false last_time t (neither (ltb t m.last) (ltb last_time t) e).1

timely : (m : Machine) (t : ℕ) (act : Act) → first_of (conditions m t act) ≡ none → t ≤ last_time
unfolding conditions
timely m t (connect l) f = good_time m t (none_at (conditions m t (connect l)) f (later here))
timely m t (disconnect l) f = good_time m t (none_at (conditions m t (disconnect l)) f (later here))
timely m t (packet l random bytes room) f = good_time m t (none_at (conditions m t (packet l random bytes room)) f (later (later (later here))))
timely m t (alarm_input i active) f = good_time m t (none_at (conditions m t (alarm_input i active)) f (later here))
timely m t (status_value i v) f = good_time m t (none_at (conditions m t (status_value i v)) f (later here))
timely m t (aggregated_value v) f = good_time m t (none_at (conditions m t (aggregated_value v)) f here)
timely m t tick f = good_time m t (none_at (conditions m t tick) f here)
timely m t (pump l random room) f = good_time m t (none_at (conditions m t (pump l random room)) f (later (later here)))

-- ---- from start
start_time : (s : Start) → good_start s ≡ true → s.time ≤ last_time
start_time s g =
    let a = both_true (leb 1 s.links) _ g in
    let b = both_true (leb s.links 4) _ a.1 in
    let c = both_true (maybe true (λ (p : ℕ). ltb p s.links) s.primary) _ b.1 in
    let d = both_true (leb 1 s.period) _ c.1 in
    let e = both_true (leb s.period 3600) _ d.1 in
    let f = both_true (leb s.first last_sequence) _ e.1 in
    leb-true s.time last_time (both_true (leb s.time last_time) _ f.1).0

abbrev unvalued : Row → Option ℤ
unvalued r = none

begun_sane : (s : Start) (edition : ℕ) (t : Table) → Allowed edition t → good_start s ≡ true → Sane (first t s)
begun_sane s edition t allowed g =
    record {
      edition = edition;
      table = allowed;
      alarm_count = length-map t.alarms (λ (r : Row). alarm_of false true false Issue s.time);
      status_count = length-map t.statuses unvalued;
      alarms = each_of (λ (r : Row). alarm_of false true false Issue s.time) (λ r. start_time s g) t.alarms;
      statuses = each_of unvalued (λ r is_old. unknown) t.statuses;
      aggregated = omega arith;
      aggregated_time_lem = start_time s g;
      held = no_more;
    }

step_sane : (m : Machine) → Sane m → (c : Call) → Typed c.act → Sane (step m c).1
step_sane m s c typed =
    by_number m c
    (λ e. rw (step_done m c e) (sane_after c.time _ (lays m s c.time (timely m c.time c.act e) c.act typed e)))
    (λ n e. rw (step_refused m c n e) s)

pub run_sane : {s : Start} {h : List Past} {m : Machine} → Run s h m → EachTyped h → Sane m
run_sane {s} (begun (begins {edition} {t} allowed e g)) none_yet = begun_sane s edition t allowed g
run_sane {s} (begun_beside (begins {edition} {t} allowed e g) o two) none_yet = sane_pool (begun_sane s edition t allowed g) _ no_more
run_sane (other_starts r b two) typed = sane_pool (run_sane r typed) _ (run_sane r typed).held
run_sane (other_calls r q n c) typed = sane_pool (run_sane r typed) _ (shrunk_each (other_leaves q n c) (run_sane r typed).held)
run_sane (next {m} c r) (typed_too typed rest) = step_sane m (run_sane r rest) c typed

-- ---- what each call writes
nothing_formed : (w : Message) → Among w [] → Formed w
nothing_formed w a = absurd (nobody a)

sent_formed : (m : Machine) → Sane m → (l t : ℕ) (random : Bytes) → SixteenBytes random → t ≤ last_time → (d : Due) → due m l t ≡ some d → EachFormed (sends l t (own_identity random) m d)
unfolding sends
sent_formed m s l t random sixteen late d e w (later x3) = elim x3 [ ]
sent_formed m s l t random sixteen late d e w here = due_formed m s l t (own_identity random) (sixteen_still random sixteen) late d e

pump_formed : (m : Machine) → Sane m → (l t room : ℕ) (random : Bytes) → SixteenBytes random → first_of (conditions m t (pump l random room)) ≡ none
    → EachFormed (effect_of m t (pump l random room))
unfolding effect_of
pump_formed m s l t room random sixteen f =
    maybe_cases EachFormed (only m) _ (due m l t) (λ e. nothing_formed)
    (λ d e. sent_formed m s l t random sixteen (timely m t (pump l random room) f) d e)

packet_formed : (m : Machine) → Sane m → (l t room : ℕ) (random bytes : Bytes) → SixteenBytes random → first_of (conditions m t (packet l random bytes room)) ≡ none
    → EachFormed (effect_of m t (packet l random bytes room))
unfolding effect_of conditions
packet_formed m s l t room random bytes sixteen f =
    maybe_cases EachFormed (only m) _ (read_packet bytes) (λ e. nothing_formed)
    (λ j e. received_formed m s l t (timely m t (packet l random bytes room) f) (own_identity random) (sixteen_still random sixteen) j
    (subst (λ (o : Option Json). is_ignored (life_at m l) o ≡ false) e (none_at (conditions m t (packet l random bytes room)) f (later (later (later (later (later here))))))))

quiet_formed : (m : Machine) (l t : ℕ) → EachFormed (effect_of m t (connect l)) × EachFormed (effect_of m t (disconnect l))
unfolding effect_of connects closes
quiet_formed m l t = (nothing_formed, nothing_formed)

module _ (m : Machine) (s : Sane m) (t : ℕ) where
  abbrev Writes : Act → Type 0
  Writes act = (w : Message) → Among w (messages_of (step m (record { time = t; act = act })).0) → Formed w

  by_effect : (act : Act) → (first_of (conditions m t act) ≡ none → EachFormed (effect_of m t act)) → Writes act
  by_effect act h w =
      by_number m (record { time = t; act = act })
      (λ e. rw (step_done m (record { time = t; act = act }) e) (h e w))
      (λ n e. rw (step_refused m (record { time = t; act = act }) n e) (nothing_formed w))

  unlinked : (act : Act) → link_of act ≡ none → Writes act
  unlinked act e w a = nothing_formed w (subst (λ (ms : List Message). Among w ms) ((telling m (record { time = t; act = act })).no_link e) a)

  writes : (act : Act) → Typed act → Writes act
  writes (connect l) typed = by_effect (connect l) (λ f. (quiet_formed m l t).0)
  writes (disconnect l) typed = by_effect (disconnect l) (λ f. (quiet_formed m l t).1)
  writes (packet l random bytes room) typed = by_effect (packet l random bytes room) (packet_formed m s l t room random bytes typed)
  writes (alarm_input i active) typed = unlinked (alarm_input i active) refl
  writes (status_value i v) typed = unlinked (status_value i v) refl
  writes (aggregated_value v) typed = unlinked (aggregated_value v) refl
  writes tick typed = unlinked tick refl
  writes (pump l random room) typed = by_effect (pump l random room) (pump_formed m s l t room random typed)

reads_back : (w : Message) → Formed w → ReadsBack w
reads_back w f = record { packet = kept.packet w f; fields = kept.back w f }

pub demand_read : DemandRead
demand_read = record { of_every_run = λ s h m r each c typed w a. reads_back w (writes m (run_sane r each) c.time c.act typed w a) }
