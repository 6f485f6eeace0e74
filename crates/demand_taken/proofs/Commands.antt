-- A CommandRequest in order is obeyed, one that is acknowledged was in order, and nothing else hands anything over.
-- Assumes nothing.
use Rattle.basis.proofs.Std.{ℕ, suc, ◌+◌, ◌<◌, ◌≤◌, String, ◌≡◌, refl, sym, ◌∙◌, ap, Bool, true, false, not, List, [], ◌∷◌, map, Option, some, none, length, arith, le-ltb, leb, lt-leb, both, text, same_bytes, not_both, both_true, both_false, bool_cases}
use Rattle.basis.specs.Lists.Among.{first, later}
use Rattle.json_value.specs.Grammar.{Json}
use Rattle.table_whole.specs.Allowed.{Allowed}
use Rattle.machine.specs.Words.{Bytes, maybe, is_some, or_else, any}
use Rattle.machine.specs.State.{Command, Start, Machine, life_at}
use Rattle.machine.specs.State.Act.{packet}
use Rattle.machine.specs.Json.{read_packet, string_of, entries_of, is_type, asks_for, is_included, integer_in}
use Rattle.machine.specs.Table.{last_sequence, command_number, command_row}
use Rattle.machine.specs.Table.Begins.{begins}
use Rattle.machine.specs.Life.{is_over, is_up, is_beating, is_awaited, is_older}
use Rattle.machine.specs.Answers.{is_answer, is_ignored, commanded, needs, is_missing, is_bad, component_asked, command_asked, value_asked, in_range, out_of_range, unknown_command, wants_reply, is_unexpected, reasons, reason_of}
use Rattle.machine.specs.Items.{command_of_entry, commands_asked, commands}
use Rattle.machine.specs.Messages.{command_entry}
use Rattle.machine.specs.Effects.{own_identity, carried_out, replying, receives, effect_of}
use Rattle.machine.specs.Step.{is_replied, conditions, number_of, outcome, step}
use Rattle.machine.specs.Run.{Past, Run}
use Rattle.machine.specs.Run.Run.{begun, begun_beside, next, other_starts, other_calls}
use Rattle.demand_held.proofs.Lists.{Each}
use Rattle.demand_held.proofs.Lists.Each.{no_more, one_more}
use Rattle.demand_held.proofs.Steps.{step_done}
use Rattle.demand_told.proofs.Replies.{none_at, with_ack, included_only, asks_only, asks_nothing_else, either_form}
use Rattle.demand_told.proofs.Tests.{no_not}
use Rattle.demand_told.proofs.Found.{none_of_any}
use Rattle.demand_told.proofs.Entries.{both_each, whole_entries, command_needs, command_entry_lem}
use Rattle.demand_told.proofs.GreetedDemand.{same_setup}
use Rattle.demand_happens.specs.Pumped.{at}
use Rattle.demand_happens.specs.Greeting.{Arrives, WellFormed}
use Rattle.demand_happens.proofs.Done.{configured_link, good_time, not_down}
use Rattle.demand_happens.proofs.Packets.{first_none, mtype_there}
use Rattle.demand_told.proofs.Limits.{run_limit}
use Rattle.demand_taken.specs.Commands.{Asks, InTurn, For, recent, obeying, Obeyed, DemandCommands}
use Rattle.demand_taken.specs.Commands.InTurn.{no_more as no_turn, one_more as one_turn}
use Rattle.demand_taken.proofs.Acked.{Heard, acked_heard}
use Rattle.demand_taken.proofs.Handed.{is_some_lem, acks_so, nothing_else}
use Rattle.demand_taken.proofs.Entries.{asks, asked_at, value_of_lem, component_at}

-- ---- the table of a run
record HasTable (m : Machine) : Type 0 where
  edition : ℕ
  allowed : Allowed edition m.setup.table

run_table : {s : Start} {h : List Past} {m : Machine} → Run s h m → HasTable m
run_table (begun (begins {edition} {t} a e g)) = record { edition = edition; allowed = a }
run_table (begun_beside (begins {edition} {t} a e g) o two) = record { edition = edition; allowed = a }
run_table (other_starts r b two) = let t = run_table r in record { edition = t.edition; allowed = t.allowed }
run_table (other_calls r q n c) = let t = run_table r in record { edition = t.edition; allowed = t.allowed }
run_table (next {h} {m} c r) = let t = run_table r in record { edition = t.edition; allowed = rw (same_setup r c) t.allowed }

abbrev Valued : Json → Type 0
Valued e = is_some (integer_in (string_of "v" e)) ≡ true

each_to : {P Q : Json → Type 0} → ((x : Json) → P x → Q x) → {xs : List Json} → Each P xs → Each Q xs
each_to f no_more = no_more
each_to f (one_more p r) = one_more (f _ p) (each_to f r)

each_valued : (older : Bool) (j : Json) → asks_for "CommandRequest" j ≡ true → any (is_missing j) (needs older j) ≡ false → any (is_bad j) (needs older j) ≡ false
    → Each Valued (entries_of "arg" j)
each_valued older j typed complete good = each_to (λ e w. (command_entry_lem e w).1) (whole_entries older "arg" commanded j (command_needs older j typed) complete good)

when_all : (a b c : Bool) → a ≡ true → b ≡ true → both a (both b c) ≡ false → c ≡ false
when_all true true c p q e = e
when_all true false c p q e = not_both q refl
when_all false b c p q e = not_both p refl

when_both : (a b : Bool) → a ≡ true → both a b ≡ false → b ≡ false
when_both true b p e = e
when_both false b p e = not_both p refl

-- ---- entries in turn, as the machine takes them
module _ (m : Machine) (j : Json) (component : ℕ) (known : component_asked m j ≡ some component) where
  asked_so : (e : Json) → command_asked m j e ≡ command_number m.setup.table component (string_of "cCI" e) (string_of "n" e)
  asked_so e = ap (maybe none (λ (c : ℕ). command_number m.setup.table c (string_of "cCI" e) (string_of "n" e))) known

  abbrev outside : Json → Bool
  outside e = maybe false (λ (i : ℕ). not (in_range (command_row m.setup.table i) (value_asked e))) (command_asked m j e)

  module _ (table : HasTable m) where
    number_at : (e : Json) (x : Command) → Asks m.setup.table component e x → command_asked m j e ≡ some x.number
    number_at e x a = asked_so e ∙ asked_at m component table.allowed e x a

    command_is : (e : Json) (x : Command) → Asks m.setup.table component e x → Valued e → command_of_entry m j e ≡ x
    command_is e x a v = rw (number_at e x a, value_of_lem m component e x a v)

    status_is : (e : Json) (x : Command) → Asks m.setup.table component e x → Valued e → command_entry m j e ≡ recent m.setup.table x
    status_is e x a v = rw (known, a.code, a.name, value_of_lem m component e x a v)

    handed_are : {es : List Json} {xs : List Command} → InTurn m.setup.table component es xs → Each Valued es → map (command_of_entry m j) es ≡ xs
    handed_are no_turn no_more = refl
    handed_are (one_turn {e} {x = x} a r) (one_more v q) = λ i. command_is e x a v i ∷ handed_are r q i

    told_are : {es : List Json} {xs : List Command} → InTurn m.setup.table component es xs → Each Valued es → map (command_entry m j) es ≡ map (recent m.setup.table) xs
    told_are no_turn no_more = refl
    told_are (one_turn {e} {x = x} a r) (one_more v q) = λ i. status_is e x a v i ∷ told_are r q i

    none_outside : {es : List Json} {xs : List Command} → InTurn m.setup.table component es xs → Each Valued es → any outside es ≡ false
    none_outside no_turn no_more = refl
    none_outside (one_turn {e} {x = x} a r) (one_more v q) = rw (number_at e x a, value_of_lem m component e x a v, a.lowest, a.highest) (none_outside r q)

    none_unknown : {es : List Json} {xs : List Command} → InTurn m.setup.table component es xs → any (λ (e : Json). not (is_some (command_asked m j e))) es ≡ false
    none_unknown no_turn = refl
    none_unknown (one_turn {e} {x = x} a r) = rw (number_at e x a) (none_unknown r)

-- ---- a CommandRequest, of either form
module _ (m : Machine) (l : ℕ) (j : Json) (component : ℕ) (typed : asks_for "CommandRequest" j ≡ true) (known : component_asked m j ≡ some component) where
  no_type : (a : String) → same_bytes (text "CommandRequest") (text a) ≡ false → same_bytes (with_ack "CommandRequest") (text a) ≡ false → is_type a j ≡ false
  no_type a e f = asks_only "CommandRequest" a e f j typed

  no_status : is_included "StatusRequest" j ≡ false
  no_status = asks_nothing_else "CommandRequest" "StatusRequest" refl refl j typed

  no_answer : is_answer j ≡ false
  no_answer = rw (no_type "MessageAck" refl refl, no_type "MessageNotAck" refl refl)

  -- the old form is replied to, the new one is not
  old_form : is_included "CommandRequest" j ≡ false → is_type "CommandRequest" j ≡ true
  old_form e = either_form "CommandRequest" j typed (λ o. o) (λ f. not_both f e)

  wants : is_included "CommandRequest" j ≡ false → (n : Machine) → wants_reply n l j ≡ true
  wants e n = rw (no_type "Alarm" refl refl, no_type "AggregatedStatusRequest" refl refl, no_type "StatusRequest" refl refl, old_form e)

  wants_not : is_included "CommandRequest" j ≡ true → wants_reply m l j ≡ false
  wants_not e =
      rw (no_type "Alarm" refl refl, no_type "AggregatedStatusRequest" refl refl, no_type "StatusRequest" refl refl, included_only "CommandRequest" "CommandRequest" refl j e)

  carried_out_lem : (t : ℕ) → carried_out l t j m ≡ commands m j
  unfolding carried_out
  carried_out_lem t =
      rw (no_type "Version" refl refl, no_type "Watchdog" refl refl, no_type "Alarm" refl refl, no_type "StatusSubscribe" refl refl, no_type "StatusUnsubscribe" refl refl, typed)

  module _ (table : HasTable m) (valued : Each Valued (entries_of "arg" j)) (xs : List Command) (turns : InTurn m.setup.table component (entries_of "arg" j) xs) where
    are_asked : commands_asked m j ≡ xs
    are_asked = rw known (handed_are m j component known table turns valued)

    gives : (t : ℕ) (id : Bytes) → reason_of m l j ≡ none → outcome (receives l t id m j) ≡ obeying m.setup.table t id j xs
    unfolding receives replying commands
    gives t id unrefused =
        bool_cases (is_included "CommandRequest" j)
        (λ e. rw (no_answer, unrefused, carried_out_lem t, no_status, e, are_asked, told_are m j component known table turns valued))
        (λ e. rw (no_answer, unrefused, carried_out_lem t, no_status, e, wants e m, no_type "Alarm" refl refl, no_type "AggregatedStatusRequest" refl refl, old_form e, are_asked, told_are m j component known table turns valued))

    issues_none : (t : ℕ) (id : Bytes) → reason_of m l j ≡ none → (receives l t id m j).issues ≡ []
    unfolding receives replying commands
    issues_none t id unrefused =
        bool_cases (is_included "CommandRequest" j)
        (λ e. rw (no_answer, unrefused, carried_out_lem t, no_status, e))
        (λ e. rw (no_answer, unrefused, carried_out_lem t, no_status, e, wants e m))

    -- no reason refuses it on an Up link
    module _ (up : is_up (life_at m l) ≡ true) (few : is_included "CommandRequest" j ≡ false → length (life_at m l).awaited < 16) (formed : WellFormed j) where
      phase : ((life_at m l).connected ≡ true) × (is_over (life_at m l).versions ≡ true) × (is_over (life_at m l).watchdogs ≡ true)
      phase =
          let a = both_true (life_at m l).connected _ up in
          let b = both_true (is_over (life_at m l).versions) _ a.1 in
          (a.0, b.0, b.1)

      expected : is_unexpected (life_at m l) j ≡ false
      expected =
          rw (
            no_type "Version" refl refl,
            no_type "Watchdog" refl refl,
            no_type "Alarm" refl refl,
            no_type "AggregatedStatusRequest" refl refl,
            no_type "StatusRequest" refl refl,
            no_type "StatusSubscribe" refl refl,
            no_type "StatusUnsubscribe" refl refl,
            no_status,
            typed,
          )

      ready : is_beating (life_at m l) ≡ false
      ready = rw (phase.0, phase.1, phase.2)

      not_busy : both (wants_reply m l j) (leb 16 (length (life_at m l).awaited)) ≡ false
      not_busy =
          bool_cases (is_included "CommandRequest" j) (λ e. rw (wants_not e)) (λ e. rw (lt-leb 16 (length (life_at m l).awaited) (few e)) (both_false (wants_reply m l j)))

      no_reason : reason_of m l j ≡ none
      unfolding reasons
      no_reason =
          first_none (reasons m l j)
          (one_more (rw (mtype_there j formed.marked)) (one_more (rw formed.marked) (one_more expected (one_more (rw ready)
          (one_more (formed.complete _) (one_more (formed.good _) (one_more (rw (typed, none_outside m j component known table turns valued))
          (one_more (rw (no_type "Version" refl refl)) (one_more (rw (no_type "Version" refl refl)) (one_more (rw (no_type "Version" refl refl))
          (one_more (rw (no_type "Alarm" refl refl, no_type "AggregatedStatusRequest" refl refl)) (one_more (rw (no_type "Alarm" refl refl))
          (one_more (rw (known, no_type "StatusRequest" refl refl, no_status, no_type "StatusSubscribe" refl refl, no_type "StatusUnsubscribe" refl refl))
          (one_more (rw (none_unknown m j component known table turns, typed) (both_false (is_some (component_asked m j))))
          (one_more not_busy no_more)))))))))))))))

      heard : is_ignored (life_at m l) (some j) ≡ false
      unfolding is_ignored
      heard = rw (no_answer, formed.readable, phase.0, phase.1)

      module _ (t room : ℕ) (random bytes : Bytes) (arrives : Arrives m t bytes room j) (configured : l < m.setup.links)
          (limit : m.pool.next ≤ suc last_sequence) (fresh : is_included "CommandRequest" j ≡ false → is_awaited (life_at m l) (own_identity random) ≡ false) where
        lays : effect_of m t (packet l random bytes room) ≡ receives l t (own_identity random) m j
        unfolding effect_of
        lays = rw arrives.reads

        not_nine : both (is_replied m l j) (is_awaited (life_at m l) (own_identity random)) ≡ false
        not_nine =
            bool_cases (is_included "CommandRequest" j) (λ e. rw (no_answer, no_reason, wants_not e)) (λ e. rw (fresh e) (both_false (is_replied m l j)))

        number : number_of m (at t (packet l random bytes room)) ≡ none
        unfolding conditions
        number =
            rw (
              configured_link m l configured,
              le-ltb room 4096 arrives.roomy,
              le-ltb 4096 (length bytes) arrives.short,
              good_time m t arrives.timely,
              not_down m l phase.0,
              lays,
              arrives.reads,
              heard,
              not_nine,
              issues_none t (own_identity random) no_reason,
              le-ltb (suc last_sequence) (m.pool.next + 0) (omega (arith, limit)),
            )

        obeyed : (step m (at t (packet l random bytes room))).0 ≡ obeying m.setup.table t (own_identity random) j xs
        obeyed = rw (step_done m (at t (packet l random bytes room)) number, lays) (gives t (own_identity random) no_reason)

  -- ---- one that no reason refuses
  module _ (unrefused : reason_of m l j ≡ none) where
    complete : any (is_missing j) (needs (is_older (life_at m l)) j) ≡ false
    unfolding reasons
    complete = none_at (reasons m l j) unrefused (later (later (later (later first))))

    good : any (is_bad j) (needs (is_older (life_at m l)) j) ≡ false
    unfolding reasons
    good = none_at (reasons m l j) unrefused (later (later (later (later (later first)))))

    within : out_of_range m j ≡ false
    unfolding reasons
    within = none_at (reasons m l j) unrefused (later (later (later (later (later (later first))))))

    there : unknown_command m j ≡ false
    unfolding reasons
    there = none_at (reasons m l j) unrefused (later (later (later (later (later (later (later (later (later (later (later (later (later first)))))))))))))

    abbrev Fine : Json → Type 0
    Fine e = (is_some (command_asked m j e) ≡ true) × (outside m j component known e ≡ false) × Valued e

    all_fine : Each Fine (entries_of "arg" j)
    all_fine =
        both_each (λ e p (q : (outside m j component known e ≡ false) × Valued e). (no_not (is_some (command_asked m j e)) p, q.0, q.1))
        (none_of_any (λ (e : Json). not (is_some (command_asked m j e))) (entries_of "arg" j) (when_all (asks_for "CommandRequest" j) (is_some (component_asked m j)) _ typed (ap is_some known) there))
        (both_each (λ e p q. (p, q)) (none_of_any (outside m j component known) (entries_of "arg" j) (when_both (asks_for "CommandRequest" j) _ typed within)) (each_valued (is_older (life_at m l)) j typed complete good))

    in_range_lem : (e : Json) (o : Option ℕ) → is_some o ≡ true → maybe false (λ (i : ℕ). not (in_range (command_row m.setup.table i) (value_asked e))) o ≡ false
        → in_range (command_row m.setup.table (or_else 0 o)) (value_asked e) ≡ true
    in_range_lem e none p q = not_both p refl
    in_range_lem e (some i) p q = no_not (in_range (command_row m.setup.table i) (value_asked e)) q

    in_turn : {es : List Json} → Each Fine es → InTurn m.setup.table component es (map (command_of_entry m j) es)
    in_turn no_more = no_turn
    in_turn (one_more {x} p r) =
        one_turn (asks m component x (or_else 0 (command_asked m j x)) (sym (asked_so m j component known x) ∙ is_some_lem 0 (command_asked m j x) p.0) p.2
        (in_range_lem x (command_asked m j x) p.0 p.1)) (in_turn r)

    turned : InTurn m.setup.table component (entries_of "arg" j) (map (command_of_entry m j) (entries_of "arg" j))
    turned = in_turn all_fine

module _ (m : Machine) (table : HasTable m) (t l room : ℕ) (random bytes : Bytes) (j : Json) (component : ℕ) (read : read_packet bytes ≡ some j) (asked : For m.setup.table j component) where
  known : component_asked m j ≡ some component
  known = component_at m table.allowed j component asked

  acknowledged : Heard m t l room random bytes j → Obeyed m t random j component (step m (at t (packet l random bytes room))).0
  unfolding effect_of
  acknowledged heard =
      let xs = map (command_of_entry m j) (entries_of "arg" j) in
      let turns = turned m l j component asked.typed known heard.reason in
      let valued = each_valued (is_older (life_at m l)) j asked.typed (complete m l j component asked.typed known heard.reason) (good m l j component asked.typed known heard.reason) in
      record {
        commands = xs;
        in_turn = turns;
        gives = rw (step_done m (at t (packet l random bytes room)) heard.number, read) (gives m l j component asked.typed known table valued xs turns t (own_identity random) heard.reason);
      }

pub demand_commands : DemandCommands
demand_commands =
    record {
      obeyed = λ s h m r l t room random bytes j component xs configured up free arrives formed asked turns.
          obeyed m l j component asked.typed (component_at m (run_table r).allowed j component asked) (run_table r) (each_valued false j asked.typed (formed.complete false) (formed.good false)) xs turns
          up (λ e. (free e).0) formed t room random bytes arrives configured (run_limit r) (λ e. (free e).1);
      acknowledged = λ s h m r t l room random bytes j component read asked w a acks.
          acknowledged m (run_table r) t l room random bytes j component read asked
          (acked_heard m t l room random bytes j read (at t (packet l random bytes room)) refl refl w (acks_so acks) a);
      nothing_else = nothing_else;
    }
