-- Each round that counts sends the record or one that stood before it.
-- Assumes nothing.
use Rattle.basis.proofs.Std.{ℕ, suc, ◌-◌, ◌≤◌, ◌<◌, ◌≡◌, refl, sym, ◌∙◌, ap, Bool, true, false, not, List, [], ◌∷◌, some, none, ◌⊎◌, inl, inr, eqb, ltb, length, arith, eq-eqb, eqb-true, le-leb, lt-leb, ltb-true, pick, both, count, Among, bool_cases, picked, eq_or_ne, not_both, both_true}
use Rattle.basis.specs.Lists.Among.{first as here}
use Rattle.json_value.specs.Grammar.{Json}
use Rattle.table_whole.specs.Table.{Table}
use Rattle.machine.specs.Words.{Bytes, maybe, alike}
use Rattle.machine.specs.State.{Event, event_number, Alarm, alarm_of, Content, Held, Sent, Start, Machine, life_at, alarm_at, Call}
use Rattle.machine.specs.State.Event.{Issue, Acknowledge, Suspend}
use Rattle.machine.specs.State.Content.{of_alarm, of_status, of_aggregated}
use Rattle.machine.specs.State.Sent.{no_record, the_record}
use Rattle.machine.specs.State.Act.{packet, pump}
use Rattle.machine.specs.Life.{is_up, is_primary, same_alarm, alarm_in, newest, carries, carried_by, pass_length, oldest_unsent, Due, due_up, due}
use Rattle.machine.specs.Life.Due.{the_watchdog, the_aggregated, the_alarm, the_held}
use Rattle.machine.specs.Messages.{alarm_message, record_message}
use Rattle.machine.specs.Effects.{own_identity, due_message, sent_as, after_sending}
use Rattle.machine.specs.Step.{step}
use Rattle.machine.specs.Run.{Past, Run}
use Rattle.machine.specs.Run.Run.{next}
use Rattle.demand_held.proofs.Lists.{maybe_cases}
use Rattle.demand_held.proofs.Demand.{run_sound}
use Rattle.demand_happens.specs.Pumped.{at}
use Rattle.demand_happens.specs.Records.{next_beat, IsRound, Rounds, is_before, ahead, GoesOut, Sending}
use Rattle.demand_happens.specs.Records.Rounds.{over, round, beat}
use Rattle.demand_happens.specs.Records.GoesOut.{at_once, later}
use Rattle.demand_happens.specs.Example.{inputs, subscribes}
use Rattle.demand_happens.proofs.Example.{begun_example, begun_second, goes_on_lem}
use Rattle.demand_happens.proofs.Rounds.{holds_three, three_rounds_lem, counted_three, told_three, holds_one, two_rounds_lem, counted_two, told_two}
use Rattle.demand_happens.proofs.Counts.{gone, count_gone, count_one_gone, still_there, some_counted, one_number, Oldest, oldest, Newest, newest_of}
use Rattle.demand_happens.proofs.Round.{up_connected, up_over, NoVersion, marked_by, settled_by, pumped_gave, pumped_awaited, answered_up, answered_alone, answered_pass, answered_held, answered_alarms, answered_setup}

-- ---- the message of a pass that carries a record is the record's own
same_flag : (a b : Bool) → alike a b ≡ true → a ≡ b
same_flag true true e = refl
same_flag true false e = not_both e refl
same_flag false true e = not_both e refl
same_flag false false e = refl

same_event : (a b : Event) → eqb (event_number a) (event_number b) ≡ true → a ≡ b
same_event Issue Issue e = refl
same_event Issue Acknowledge e = not_both e refl
same_event Issue Suspend e = not_both e refl
same_event Acknowledge Issue e = not_both e refl
same_event Acknowledge Acknowledge e = refl
same_event Acknowledge Suspend e = not_both e refl
same_event Suspend Issue e = not_both e refl
same_event Suspend Acknowledge e = not_both e refl
same_event Suspend Suspend e = refl

same_alarm_lem : (a b : Alarm) → same_alarm a b ≡ true → a ≡ b
same_alarm_lem a b e =
    let p = both_true (alike a.active b.active) _ e in
    let q = both_true (alike a.acknowledged b.acknowledged) _ p.1 in
    let r = both_true (alike a.suspended b.suspended) _ q.1 in
    let s = both_true (eqb (event_number a.event) (event_number b.event)) _ r.1 in
    fields (same_flag a.active b.active p.0) (same_flag a.acknowledged b.acknowledged q.0) (same_flag a.suspended b.suspended r.0)
    (same_event a.event b.event s.0) (eqb-true a.time b.time s.1)
  where
    fields : a.active ≡ b.active → a.acknowledged ≡ b.acknowledged → a.suspended ≡ b.suspended → a.event ≡ b.event → a.time ≡ b.time
        → alarm_of a.active a.acknowledged a.suspended a.event a.time ≡ alarm_of b.active b.acknowledged b.suspended b.event b.time
    fields v w x y z = rw (v, w, x, y, z)

pub own_message : (t : Table) (id : Bytes) (i : ℕ) (a : Alarm) (c : Content) → maybe false (same_alarm a) (alarm_in i c) ≡ true → alarm_message t id i a ≡ record_message t id c
own_message t id i a (of_alarm n b) e = go (eqb n i) refl e
  where
    go : (q : Bool) → eqb n i ≡ q → maybe false (same_alarm a) (pick q (some b) none) ≡ true → alarm_message t id i a ≡ alarm_message t id n b
    go true f g = rw (eqb-true n i f, same_alarm_lem a b g)
    go false f g = not_both g refl
own_message t id i a (of_status n v old time) e = not_both e refl
own_message t id i a (of_aggregated v time) e = not_both e refl

pub data Carries (m : Machine) (l i : ℕ) : Sent → Type 0 where
  nothing : Carries m l i no_record
  one : (h : Held) → Among h m.pool.held → maybe false (same_alarm (alarm_at m i)) (alarm_in i h.content) ≡ true → Carries m l i (the_record h.sequence)

pub carries_what : (m : Machine) (l i : ℕ) → Carries m l i (carried_by m l i)
unfolding carried_by
carries_what m l i =
    maybe_cases (Carries m l i) no_record (carries (alarm_at m i) i) (newest l i none m.pool.held) (λ e. nothing)
    (λ h e. picked (Carries m l i) (maybe false (same_alarm (alarm_at m i)) (alarm_in i h.content)) (the_record h.sequence) no_record
    (λ f. one h (held h (newest_of l i h none m.pool.held e)) f) (λ f. nothing))
  where
    held : (h : Held) → (none ≡ some h) ⊎ Newest l i h m.pool.held → Among h m.pool.held
    held h (inl e) = absurd (let z : ◌≡◌ {A = ℕ} 0 1 = cc in omega arith)
    held h (inr w) = w.among

-- ---- what is due on an Up link
module _ (m : Machine) (l t : ℕ) (up : is_up (life_at m l) ≡ true) where
  pub due_is : due m l t ≡ due_up m l t (life_at m l)
  unfolding due
  due_is = rw (up_connected (life_at m l) up, (up_over (life_at m l) up).0, (up_over (life_at m l) up).1)

  pub due_beat : next_beat m l ≤ t → due m l t ≡ some the_watchdog
  unfolding due_up
  due_beat h = due_is ∙ rw (le-leb (next_beat m l) t h)

  module _ (early : t < next_beat m l) where
    pub due_aggregated : eqb (life_at m l).pass 0 ≡ true → due m l t ≡ some the_aggregated
    unfolding due_up
    due_aggregated e = due_is ∙ rw (lt-leb (next_beat m l) t early, e)

    pub due_alarm : eqb (life_at m l).pass 0 ≡ false → ltb (life_at m l).pass (pass_length m l) ≡ true → due m l t ≡ some (the_alarm ((life_at m l).pass - 1))
    unfolding due_up
    due_alarm e f = due_is ∙ rw (lt-leb (next_beat m l) t early, e, f)

    pub due_record : eqb (life_at m l).pass 0 ≡ false → ltb (life_at m l).pass (pass_length m l) ≡ false → (h : Held) → oldest_unsent m l ≡ some h → due m l t ≡ some (the_held h)
    unfolding due_up
    due_record e f h g = due_is ∙ rw (lt-leb (next_beat m l) t early, e, f, g)

pub pass_some : (m : Machine) (l : ℕ) → 1 ≤ pass_length m l
pass_some m l = picked (λ (n : ℕ). 1 ≤ n) (is_primary m l) _ 1 (λ e. omega arith) (λ e. omega arith)

-- ---- one round
module _ (l : ℕ) (x : Held) where
  pub record Waits (m : Machine) : Type 0 where
    pub configured : l < m.setup.links
    pub up : is_up (life_at m l) ≡ true
    pub alone : (life_at m l).awaited ≡ []
    pub among : Among x m.pool.held
    pub link : x.link ≡ l
    pub unsent : x.sent ≡ false

  own_count : {m : Machine} → Waits m → is_before l x.sequence x ≡ true
  own_count w = rw (eq-eqb x.link l w.link, w.unsent, le-leb x.sequence x.sequence (omega arith))

  -- it goes out in the pump, or waits on with fewer ahead
  pub data Turn (m : Machine) (t room : ℕ) (random : Bytes) (after : Machine) : Type 0 where
    out : ((cs : List Call) → GoesOut l x m (at t (pump l random room) ∷ cs)) → Turn m t room random after
    on : Waits after → suc (ahead after l x) ≤ ahead m l x → Turn m t room random after

  module _ {start : Start} {h : List Past} {m : Machine} (r : Run start h m) (w : Waits m) (t room s place : ℕ) (random other bytes : Bytes) (j : Json)
      (is-round : IsRound l m t room random s place bytes j) where
    abbrev end : Machine
    end = (step (step m (at t (pump l random room))).1 (at s (packet l other bytes place))).1

    passes_on : end.setup ≡ m.setup → length end.alarms ≡ length m.alarms → pass_length end l ≡ pass_length m l
    passes_on e f = rw (e, f)

    goes : (d : Due) → due m l t ≡ some d → due_message m t (own_identity random) d ≡ record_message m.setup.table (own_identity random) x.content
        → sent_as m l d ≡ the_record x.sequence → Turn m t room random end
    goes d is same carried =
        out (λ cs. at_once {m = m} {t = t} {room = room} {random = random} (rw (← same) (pumped_gave r l w.configured w.up w.alone t room s place random other bytes j is-round d is))
        (rw (pumped_awaited r l w.configured w.up w.alone t room s place random other bytes j is-round d is, carried) here))

    module _ (d : Due) (is : due m l t ≡ some d) (no_version : NoVersion (sent_as m l d)) where
      then_setup : end.setup ≡ m.setup
      then_setup = answered_setup r l w.configured w.up w.alone t room s place random other bytes j is-round d is no_version

      pub then_passes : pass_length end l ≡ pass_length m l
      then_passes = passes_on then_setup (ap length (answered_alarms r l w.configured w.up w.alone t room s place random other bytes j is-round d is no_version))

      pub then_pass : (life_at end l).pass ≡ (after_sending t d (life_at m l)).pass
      then_pass = answered_pass r l w.configured w.up w.alone t room s place random other bytes j is-round d is no_version

      pub then_held : end.pool.held ≡ settled_by l (sent_as m l d) (marked_by (sent_as m l d) m.pool.held)
      then_held = answered_held r l w.configured w.up w.alone t room s place random other bytes j is-round d is no_version

      pub then_waits : Among x end.pool.held → Waits end
      then_waits a =
          record {
            configured = rw then_setup w.configured;
            up = answered_up r l w.configured w.up w.alone t room s place random other bytes j is-round d is no_version;
            alone = answered_alone r l w.configured w.up w.alone t room s place random other bytes j is-round d is no_version;
            among = a;
            link = w.link;
            unsent = w.unsent;
          }

    -- a message of the pass that carries nothing
    pass_quiet : (d : Due) → due m l t ≡ some d → sent_as m l d ≡ no_record → (after_sending t d (life_at m l)).pass ≡ suc (life_at m l).pass → (life_at m l).pass < pass_length m l
        → Turn m t room random end
    pass_quiet d is e one_more left =
        on (then_waits d is (rw e tt) (rw same w.among))
        (omega (arith, then_passes d is (rw e tt), then_pass d is (rw e tt), one_more, left, ap (count (is_before l x.sequence)) same))
      where
        same : end.pool.held ≡ m.pool.held
        same = then_held d is (rw e tt) ∙ rw e

    -- one that carries another record
    pass_other : (d : Due) → due m l t ≡ some d → (n : ℕ) → sent_as m l d ≡ the_record n → (x.sequence ≡ n → ⊥) → (after_sending t d (life_at m l)).pass ≡ suc (life_at m l).pass
        → (life_at m l).pass < pass_length m l → Turn m t room random end
    pass_other d is n e apart one_more left =
        on (then_waits d is (rw e tt) (rw same (still_there l n w.among apart)))
        (omega (arith, then_passes d is (rw e tt), then_pass d is (rw e tt), one_more, left, ap (count (is_before l x.sequence)) same, count_gone l n x.sequence m.pool.held))
      where
        same : end.pool.held ≡ gone l n m.pool.held
        same = then_held d is (rw e tt) ∙ rw e

    -- a record before this one
    other_record : (y : Held) → due m l t ≡ some (the_held y) → Among y m.pool.held → is_before l x.sequence y ≡ true → (x.sequence ≡ y.sequence → ⊥) → Turn m t room random end
    other_record y is among before apart =
        on (then_waits (the_held y) is tt (rw (then_held (the_held y) is tt) (still_there l y.sequence w.among apart)))
        (omega (
          arith,
          then_passes (the_held y) is tt,
          then_pass (the_held y) is tt,
          ap (count (is_before l x.sequence)) (then_held (the_held y) is tt),
          count_one_gone l y.sequence x.sequence m.pool.held among before refl,
        ))

    alarm_turn : eqb (life_at m l).pass 0 ≡ false → (life_at m l).pass < pass_length m l → due m l t ≡ some (the_alarm ((life_at m l).pass - 1)) → Turn m t room random end
    alarm_turn e left is = go (carried_by m l i) refl (carries_what m l i)
      where
        i : ℕ
        i = (life_at m l).pass - 1

        this : (y : Held) → Among y m.pool.held → maybe false (same_alarm (alarm_at m i)) (alarm_in i y.content) ≡ true → carried_by m l i ≡ the_record y.sequence
            → (x.sequence ≡ y.sequence) ⊎ (x.sequence ≡ y.sequence → ⊥) → Turn m t room random end
        this y among same f (inl q) =
            let own : x ≡ y = one_number (run_sound r).good.own.rising w.among among q in
            goes (the_alarm i) is (own_message m.setup.table (own_identity random) i (alarm_at m i) x.content (rw own same)) (f ∙ ap the_record (sym q))
        this y among same f (inr n) = pass_other (the_alarm i) is y.sequence f n refl left

        go : (v : Sent) → carried_by m l i ≡ v → Carries m l i v → Turn m t room random end
        go v f nothing = pass_quiet (the_alarm i) is f refl left
        go v f (one y among same) = this y among same f (eq_or_ne x.sequence y.sequence)

    record_turn : (o : Oldest (λ (y : Held). both (eqb y.link l) (not y.sent)) x m.pool.held) → due m l t ≡ some (the_held o.one) → Turn m t room random end
    record_turn o is = go (eq_or_ne x.sequence o.one.sequence)
      where
        parts : (eqb o.one.link l ≡ true) × (not o.one.sent ≡ true)
        parts = both_true (eqb o.one.link l) _ o.passes

        before : is_before l x.sequence o.one ≡ true
        before = rw (parts.0, parts.1, le-leb o.one.sequence x.sequence o.older)

        go : (x.sequence ≡ o.one.sequence) ⊎ (x.sequence ≡ o.one.sequence → ⊥) → Turn m t room random end
        go (inl q) =
            let own : x ≡ o.one = one_number (run_sound r).good.own.rising w.among o.among q in
            goes (the_held o.one) is (rw own) (ap the_record (sym q))
        go (inr n) = other_record o.one is o.among before n

    pub turn : t < next_beat m l → Turn m t room random end
    turn early =
        bool_cases (eqb (life_at m l).pass 0)
        (λ e. pass_quiet the_aggregated (due_aggregated m l t w.up early e) refl refl (omega (arith, eqb-true (life_at m l).pass 0 e, pass_some m l)))
        (λ e. bool_cases (ltb (life_at m l).pass (pass_length m l))
        (λ f. alarm_turn e (ltb-true (life_at m l).pass (pass_length m l) f) (due_alarm m l t w.up early e f))
        (λ f. record_turn first (due_record m l t w.up early e f first.one first.found)))
      where
        first : Oldest (λ (y : Held). both (eqb y.link l) (not y.sent)) x m.pool.held
        first = oldest (λ (y : Held). both (eqb y.link l) (not y.sent)) m.pool.held (run_sound r).good.own.rising w.among (rw (eq-eqb x.link l w.link, w.unsent))

    -- a due Watchdog goes first
    pub beaten : next_beat m l ≤ t → Waits end × (ahead end l x ≤ ahead m l x)
    beaten late = (
      then_waits the_watchdog is tt (rw same w.among),
      omega (arith, then_passes the_watchdog is tt, then_pass the_watchdog is tt, ap (count (is_before l x.sequence)) same),
    )
      where
        is : due m l t ≡ some the_watchdog
        is = due_beat m l t w.up late

        same : end.pool.held ≡ m.pool.held
        same = then_held the_watchdog is tt

-- ---- round after round
goes_out : {start : Start} (l : ℕ) (x : Held) {m : Machine} {h : List Past} {n : ℕ} {cs : List Call} → Run start h m → Waits l x m → Rounds l m n cs → ahead m l x ≤ n
    → GoesOut l x m cs
goes_out l x r w (over {m}) few = absurd (omega (arith, few, some_counted (is_before l x.sequence) w.among (own_count l x w)))
goes_out l x r w (round {m} {n} {t} {room} {s} {place} {random} {other} {bytes} {j} {cs} is-round early rest) few =
    by (turn l x r w t room s place random other bytes j is-round early)
    (λ v k. goes_out l x (next (at s (packet l other bytes place)) (next (at t (pump l random room)) r)) v rest k)
  where
    by : Turn l x m t room random (end l x r w t room s place random other bytes j is-round)
        → (Waits l x (end l x r w t room s place random other bytes j is-round) → ahead (end l x r w t room s place random other bytes j is-round) l x ≤ n
        → GoesOut l x (end l x r w t room s place random other bytes j is-round) cs)
        → GoesOut l x m (at t (pump l random room) ∷ at s (packet l other bytes place) ∷ cs)
    by (out f) g = f (at s (packet l other bytes place) ∷ cs)
    by (on v fewer) g = later (later (g v (omega (arith, few, fewer))))
goes_out l x r w (beat {m} {n} {t} {room} {s} {place} {random} {other} {bytes} {j} {cs} is-round late rest) few =
    let b = beaten l x r w t room s place random other bytes j is-round late in
    later (later (goes_out l x (next (at s (packet l other bytes place)) (next (at t (pump l random room)) r)) b.0 rest (omega (arith, few, b.1))))

pub sending : Sending
sending =
    record {
      goes_out = λ s h m r l here up alone x among link unsent n cs rounds few.
          goes_out l x r (record { configured = here; up = up; alone = alone; among = among; link = link; unsent = unsent }) rounds few;
      from_start = goes_on_lem begun_example inputs;
      holds_three = holds_three;
      is_up_lem = refl;
      rounds = three_rounds_lem;
      counted = counted_three;
      told = told_three;
      second_start_lem = goes_on_lem begun_second subscribes;
      holds_one = holds_one;
      second_up = refl;
      second_rounds = two_rounds_lem;
      second_counted = counted_two;
      second_told = told_two;
    }
