-- Each done call keeps what its history tells, and issues what that tells, over every run.
-- Assumes nothing.
use Rattle.basis.proofs.Std.{ℕ, zero, suc, ◌<◌, String, ◌≡◌, refl, sym, ◌∙◌, ap, Bool, true, false, not, List, [], ◌∷◌, map, Option, some, none, eqb, ℤ, length, get_or, arith, leb-false, pick, both, same_bytes, text, not_both, both_true, picked}
use Rattle.basis.specs.Lists.Among.{first, later}
use Rattle.json_value.specs.Grammar.{Json}
use Rattle.table_whole.specs.Table.{Row, Table}
use Rattle.write_message.specs.Message.{Message}
use Rattle.machine.specs.Words.{Bytes, is_some, or_else, any, first_of}
use Rattle.machine.specs.State.{Alarm, alarm_of, Awaited, Life, Setup, Start, Machine, with_life, life_at, alarm_at, value_at, Act, Call, Outcome, Effect, only}
use Rattle.machine.specs.State.Event.{Issue}
use Rattle.machine.specs.State.Sent.{no_record}
use Rattle.machine.specs.State.Outcome.{refused}
use Rattle.machine.specs.State.Act.{connect, disconnect, packet, alarm_input, status_value, aggregated_value, tick, pump}
use Rattle.machine.specs.Json.{read_packet, string_of, entries_of, is_type, asks_for}
use Rattle.machine.specs.Table.Begins.{begins}
use Rattle.machine.specs.Life.{is_over, is_up, is_older, close, close_all, awaited_by, awaiting, Due, due}
use Rattle.machine.specs.Answers.{is_answer, is_ignored, component_asked, alarm_asked, status_asked, is_status_type, unknown_status, wants_reply, replies_at_once, reasons, reason_of, fails_check}
use Rattle.machine.specs.Items.{with_input, ordered, same_value, is_new, happens, subscribe, unsubscribe, intervals, becomes, commands, aggregates}
use Rattle.machine.specs.Effects.{connects, closes, late, ticks, own_identity, carried, sent_as, sends, answer_closes, answers, answered, refuses, carried_out, replying, receives, effect_of}
use Rattle.machine.specs.Table.{first as made}
use Rattle.machine.specs.Step.{conditions, number_of, outcome, step}
use Rattle.machine.specs.Run.{Past, past, Run}
use Rattle.machine.specs.Run.Run.{begun, begun_beside, next, other_starts, other_calls}
use Rattle.demand_held.proofs.Lists.{maybe_cases, Each, length-map}
use Rattle.demand_held.proofs.Steps.{laid, step_done, step_refused, done_number}
use Rattle.demand_held.specs.Held.{issued_by}
use Rattle.demand_told.proofs.Replies.{none_at, one_type, no_greeting, replied_up}
use Rattle.demand_told.proofs.Tests.{no_not}
use Rattle.demand_told.proofs.Found.{alarm_there, alarm_known, none_of_any}
use Rattle.demand_told.proofs.GreetedDemand.{same_setup, by_number}
use Rattle.demand_carried.proofs.Marks.{life_cases}
use Rattle.demand_issued.specs.History.{doing, is_ack, did, alarm_named, was_older}
use Rattle.demand_issued.specs.Issues.{issued, DemandIssues}
use Rattle.demand_issued.proofs.Kept.{KeptBy, Known, extended, ticks_on, became, stayed, aggregated_anew, aggregated_again, took_other, took_subscribe, took_unsubscribe, took_order, took_input, input_own, order_own}
use Rattle.demand_issued.proofs.Older.{Told, responded, response_acks, replied, acked, answered_silent, refuses_silent, run_told}
use Rattle.demand_issued.proofs.Issued.{value_same, nothing_issued, input_issued, order_issued, tick_issued, value_issued, value_silent, subscribe_issued, aggregate_issued, aggregate_silent, other_issued}

-- ---- the entries of a packet that no reason refuses
module _ (m : Machine) (l : ℕ) (j : Json) (unrefused : reason_of m l j ≡ none) where
  no_unknown : unknown_status m j ≡ false
  unfolding reasons
  no_unknown = none_at (reasons m l j) unrefused (later (later (later (later (later (later (later (later (later (later (later (later first))))))))))))

  pub entries_known : is_status_type j ≡ true → is_some (component_asked m j) ≡ true → Each (Known m j) (entries_of "sS" j)
  entries_known typed there = none_of_any (λ e. not (is_some (status_asked m j e))) (entries_of "sS" j) (go (is_some (component_asked m j)) (is_status_type j) _ _ there typed no_unknown)
    where
      go : (a b x y : Bool) → a ≡ true → b ≡ true → pick a (both b x) y ≡ false → x ≡ false
      go true true x y e f g = g
      go true false x y e f g = not_both f refl
      go false b x y e f g = not_both e refl

  component_known : pick (is_type "StatusSubscribe" j) true (is_type "StatusUnsubscribe" j) ≡ true → is_some (component_asked m j) ≡ true
  component_known typed = go (is_some (component_asked m j)) _ (pick (is_type "StatusSubscribe" j) true (is_type "StatusUnsubscribe" j)) typed no_unknown
    where
      go : (a x y : Bool) → y ≡ true → pick a x y ≡ false → a ≡ true
      go true x y e f = refl
      go false x y e f = not_both e f

  subscribed_known : is_type "StatusSubscribe" j ≡ true → Each (Known m j) (entries_of "sS" j)
  subscribed_known typed = entries_known (go (asks_for "StatusRequest" j) typed) (component_known (rw typed))
    where
      go : (a : Bool) → is_type "StatusSubscribe" j ≡ true → pick a true (pick (is_type "StatusSubscribe" j) true (is_type "StatusUnsubscribe" j)) ≡ true
      go true e = refl
      go false e = rw e

  ended_known : is_type "StatusUnsubscribe" j ≡ true → Each (Known m j) (entries_of "sS" j)
  ended_known typed = entries_known (go (asks_for "StatusRequest" j) (is_type "StatusSubscribe" j) typed) (component_known (go false (is_type "StatusSubscribe" j) typed))
    where
      go : (a b : Bool) → is_type "StatusUnsubscribe" j ≡ true → pick a true (pick b true (is_type "StatusUnsubscribe" j)) ≡ true
      go true b e = refl
      go false true e = refl
      go false false e = e

module _ (start : ℕ) (h : List Past) where
  -- ---- what keeps a part of the machine as it is
  closed_kept : (l : ℕ) (m : Machine) → KeptBy start h m → KeptBy start h (close l m)
  unfolding close
  closed_kept l m k = k

  all_closed_kept : (ls : List ℕ) (m : Machine) → KeptBy start h m → KeptBy start h (close_all ls m)
  all_closed_kept [] m k = k
  all_closed_kept (l ∷ ls) m k = all_closed_kept ls (close l m) (closed_kept l m k)

  abbrev On : Effect → Type 0
  On e = KeptBy start h e.leaves

  closes_kept : (l : ℕ) (messages : List Message) (m : Machine) → KeptBy start h m → On (closes l messages m)
  unfolding closes
  closes_kept l messages m k = closed_kept l m k

  sends_kept : (l t : ℕ) (id : Bytes) (m : Machine) (d : Due) → KeptBy start h m → On (sends l t id m d)
  unfolding sends
  sends_kept l t id m d k = maybe_cases (λ (x : Machine). KeptBy start h x) m _ (carried (sent_as m l d)) (λ e. k) (λ n e. k)

  answers_kept : (l : ℕ) (s : Bytes) (is_ack : Bool) (m : Machine) (a : Awaited) → KeptBy start h m → On (answers l s is_ack m a)
  unfolding answers
  answers_kept l s is_ack m a k =
      picked On (answer_closes (life_at m l) is_ack a.message) _ _ (λ e. closes_kept l [] m k)
      (λ e. maybe_cases (λ (x : Machine). KeptBy start h x) m _ (carried a.message) (λ e. k) (λ n e. k))

  answered_kept : (l : ℕ) (j : Json) (m : Machine) → KeptBy start h m → On (answered l j m)
  unfolding answered
  answered_kept l j m k = maybe_cases On (only m) _ (awaited_by (life_at m l) (string_of "oMId" j)) (λ e. k) (λ a e. answers_kept l _ _ m a k)

  refuses_kept : (l : ℕ) (j : Json) (m : Machine) (reason : String) → KeptBy start h m → On (refuses l j m reason)
  unfolding refuses
  refuses_kept l j m reason k = picked On (fails_check reason) _ _ (λ e. closes_kept l _ m k) (λ e. k)

  -- ---- what a call leaves and issues
  pub record Lays (p : Past) (e : Effect) : Type 0 where
    pub kept : KeptBy start (p ∷ h) e.leaves
    pub issues : e.issues ≡ issued e.leaves.setup start (λ l. is_up (life_at e.leaves l)) p h

  silent : (p : Past) (e : Effect) → On e → e.issues ≡ [] → did p ≡ doing none none none none false → Lays p e
  silent p e k i d = record { kept = extended start p h e.leaves k d; issues = i ∙ nothing_issued start p h e.leaves.setup (λ l. is_up (life_at e.leaves l)) d }

  happens_setup : (m : Machine) (n : ℕ) (o : Option Alarm) → (happens m n o).leaves.setup ≡ m.setup
  unfolding happens
  happens_setup m n none = refl
  happens_setup m n (some a) = refl

  happens_lays : (p : Past) (m : Machine) (n : ℕ) (o : Option Alarm) → KeptBy start (p ∷ h) (happens m n o).leaves
      → ((up : ℕ → Bool) → (happens m n o).issues ≡ issued m.setup start up p h) → Lays p (happens m n o)
  happens_lays p m n o k e = record { kept = k; issues = rw (happens_setup m n o) (e (λ l. is_up (life_at (happens m n o).leaves l))) }

  intervals_lays : (p : Past) (m : Machine) → KeptBy start h m → did p ≡ doing none none none none true → Lays p (intervals p.call.time m)
  unfolding intervals
  intervals_lays p m k d = record { kept = ticks_on start p h m k d; issues = tick_issued start p h m k d }

  ticks_lays : (p : Past) (m : Machine) → KeptBy start h m → did p ≡ doing none none none none true → Lays p (ticks p.call.time m)
  unfolding ticks
  ticks_lays p m k d =
      let x = intervals_lays p (close_all (late p.call.time m) m) (all_closed_kept (late p.call.time m) m k) d in
      record { kept = x.kept; issues = x.issues }

  becomes_lays : (p : Past) (m : Machine) → KeptBy start h m → (n : ℕ) (v : ℤ) → n < length m.statuses → did p ≡ doing none (some (n, v)) none none false → Lays p (becomes m n v p.call.time)
  unfolding becomes
  becomes_lays p m k n v there d =
      picked (Lays p) (is_new v (value_at m n)) _ _
      (λ e. record { kept = became start p h m k n v d there; issues = value_issued start p h m k n v d e })
      (λ e. record { kept = stayed start p h m k n v d (old (value_at m n) e); issues = value_silent start p h m k n v d e })
    where
      old : (o : Option ℤ) → is_new v o ≡ false → o ≡ some v
      old none e = not_both refl e
      old (some w) e = ap some (sym (value_same v w (no_not (same_value v w) e)))

  aggregates_lays : (p : Past) (m : Machine) → KeptBy start h m → (v : ℕ) → did p ≡ doing none none (some v) none false → Lays p (aggregates m v p.call.time)
  unfolding aggregates
  aggregates_lays p m k v d =
      picked (Lays p) (eqb v m.aggregated) _ _
      (λ e. record { kept = aggregated_again start p h m k v d e; issues = aggregate_silent start p h m k v d e })
      (λ e. record { kept = aggregated_anew start p h m k v d e; issues = aggregate_issued start p h m k v d e })

  input_lays : (p : Past) (m : Machine) → KeptBy start h m → (n : ℕ) (active : Bool) → n < length m.alarms → did p ≡ doing (some (n, active)) none none none false
      → Lays p (happens m n (with_input active p.call.time (alarm_at m n)))
  input_lays p m k n active there d =
      happens_lays p m n _ (took_input start p h m k n active d there)
      (λ up. rw (k.alarms n there) (input_issued start p h m k up n there active d (input_own m.setup.table start p h n active (rw d) (rw d))))

  -- ---- a packet that was acknowledged
  module _ (p : Past) (m : Machine) (k : KeptBy start h m) (l : ℕ) (j : Json) (d : did p ≡ doing none none none (some (l, j)) false) (unrefused : reason_of m l j ≡ none)
      (read_by : is_type "StatusSubscribe" j ≡ true → is_older (life_at m l) ≡ was_older l h) where
    calm : (e : Effect) → KeptBy start (p ∷ h) e.leaves → e.leaves.setup ≡ m.setup → e.issues ≡ [] → is_type "Alarm" j ≡ false → is_type "StatusSubscribe" j ≡ false → Lays p e
    calm e x same none-issued no_alarm_lem no_subscribe =
        record { kept = x; issues = none-issued ∙ rw same (other_issued start p h m k l j d no_alarm_lem no_subscribe (λ l. is_up (life_at e.leaves l))) }

    found : is_type "Alarm" j ≡ true → alarm_named m.setup.table j ≡ some (or_else 0 (alarm_asked m j))
    found typed = go (alarm_asked m j) (alarm_known m l j unrefused typed)
      where
        go : (o : Option ℕ) → is_some o ≡ true → o ≡ some (or_else 0 o)
        go none e = not_both e refl
        go (some n) e = refl

    order_lays : is_type "Alarm" j ≡ true → Lays p (happens m (or_else 0 (alarm_asked m j)) (ordered p.call.time j (alarm_at m (or_else 0 (alarm_asked m j)))))
    order_lays typed =
        happens_lays p m (or_else 0 (alarm_asked m j)) _
        (took_order start p h m k l j d typed (one_type "Alarm" "StatusSubscribe" refl j typed) (one_type "Alarm" "StatusUnsubscribe" refl j typed) (or_else 0 (alarm_asked m j)) (found typed) there)
        (λ up. rw (k.alarms (or_else 0 (alarm_asked m j)) there) (order_issued start p h m k up (or_else 0 (alarm_asked m j)) there l j d typed (one_type "Alarm" "StatusSubscribe" refl j typed) (found typed)
        (order_own m.setup.table start p h l j (rw d) (rw d) typed (or_else 0 (alarm_asked m j)) (found typed))))
      where
        there : or_else 0 (alarm_asked m j) < length m.alarms
        there = omega (arith, alarm_there m j (alarm_known m l j unrefused typed), k.alarm_count)

    pub carried_lays : Lays p (carried_out l p.call.time j m)
    unfolding carried_out subscribe unsubscribe commands
    carried_lays =
        picked (Lays p) (is_type "Version" j) _ _ (λ e. calm _ (other "Version" refl refl refl e) refl refl (one_type "Version" "Alarm" refl j e) (one_type "Version" "StatusSubscribe" refl j e))
        (λ v. picked (Lays p) (is_type "Watchdog" j) _ _ (λ e. calm _ (other "Watchdog" refl refl refl e) refl refl (one_type "Watchdog" "Alarm" refl j e) (one_type "Watchdog" "StatusSubscribe" refl j e))
        (λ w. picked (Lays p) (is_type "Alarm" j) _ _ order_lays
        (λ a. picked (Lays p) (is_type "StatusSubscribe" j) _ _
        (λ e. record {
          kept = took_subscribe start p h m k l j d e a (subscribed_known m l j unrefused e) (read_by e);
          issues = subscribe_issued start p h m k l j d e a (subscribed_known m l j unrefused e);
        })
        (λ s. picked (Lays p) (is_type "StatusUnsubscribe" j) _ _ (λ e. calm _ (took_unsubscribe start p h m k l j d e s a (ended_known m l j unrefused e)) refl refl a s)
        (λ u. picked (Lays p) (asks_for "CommandRequest" j) _ _ (λ e. calm _ (took_other start p h m k l j d a s u) refl refl a s) (λ e. calm _ (took_other start p h m k l j d a s u) refl refl a s))))))
      where
        other : (name : String) → same_bytes (text name) (text "Alarm") ≡ false → same_bytes (text name) (text "StatusSubscribe") ≡ false → same_bytes (text name) (text "StatusUnsubscribe") ≡ false
            → is_type name j ≡ true → KeptBy start (p ∷ h) m
        other name x y z e = took_other start p h m k l j d (one_type name "Alarm" x j e) (one_type name "StatusSubscribe" y j e) (one_type name "StatusUnsubscribe" z j e)

  -- ---- every call
  module _ (m : Machine) (k : KeptBy start h m) (told : (l : ℕ) → Told l h (life_at m l)) (t : ℕ) where
    abbrev past_of : Act → Effect → Past
    past_of act e = record { call = record { time = t; act = act }; gave = outcome e }

    abbrev pub Goes : Act → Effect → Type 0
    Goes act e = Lays (past_of act e) e

    module _ (l : ℕ) (random bytes : Bytes) (room : ℕ) where
      abbrev this : Act
      this = packet l random bytes room

      quiet : (e : Effect) → On e → e.issues ≡ [] → any is_ack e.messages ≡ false → Goes this e
      quiet e o i unacked = silent (past_of this e) e o i (rw unacked)

      same_up : (id : Bytes) (x : Machine) (n : ℕ) → is_up (life_at x n) ≡ is_up (life_at (with_life l (awaiting id t no_record (life_at x l)) x) n)
      same_up id x n = life_cases (λ (y : Life). is_up (life_at x n) ≡ is_up y) l _ x.lives n (λ e. rw e) refl

      abbrev gives : Outcome → Past
      gives o = record { call = record { time = t; act = this }; gave = o }

      module _ (id : Bytes) (j : Json) (r : read_packet bytes ≡ some j) where
        replying_goes : (e : Effect) → ((o : Outcome) → did (gives o) ≡ doing none none none (some (l, j)) false → Lays (gives o) e) → Goes this (replying l t id j e)
        unfolding replying
        replying_goes e each =
            picked (Goes this) (replies_at_once j) (responded l t id j e) _ (λ o. at_once)
            (λ o. picked (Goes this) (wants_reply e.leaves l j) (replied l t id j e) (acked l t id j e) (λ w. with_reply) (λ w. without_reply))
          where
            at_once : Goes this (responded l t id j e)
            at_once = let x = each (outcome (responded l t id j e)) (rw (response_acks l t id j e.leaves, r)) in record { kept = x.kept; issues = x.issues }

            with_reply : Goes this (replied l t id j e)
            with_reply =
                let x = each (outcome (replied l t id j e)) (rw r) in
                record {
                  kept = x.kept;
                  issues =
                      x.issues
                      ∙ ap (λ (up : ℕ → Bool). issued e.leaves.setup start up (gives (outcome (replied l t id j e))) h) (λ z n. same_up id e.leaves n z);
                }

            without_reply : Goes this (acked l t id j e)
            without_reply = let x = each (outcome (acked l t id j e)) (rw r) in record { kept = x.kept; issues = x.issues }

        -- what subscribes is Up
        read_by : (life_at m l).connected ≡ true → is_ignored (life_at m l) (some j) ≡ false → is_answer j ≡ false → reason_of m l j ≡ none → is_type "StatusSubscribe" j ≡ true
            → is_older (life_at m l) ≡ was_older l h
        read_by connected heard other unrefused typed =
            let up = replied_up m l j (record { other = other; reason = unrefused; asked = no_greeting "StatusSubscribe" refl refl j typed }) (rw connected) heard in
            told l (both_true (life_at m l).versions.acknowledged _ (both_true (is_over (life_at m l).versions) _ (both_true (life_at m l).connected _ up).1).0).1

        received_goes : (life_at m l).connected ≡ true → is_ignored (life_at m l) (some j) ≡ false → Goes this (receives l t id m j)
        unfolding receives
        received_goes connected heard =
            picked (Goes this) (is_answer j) _ _
            (λ e. quiet (answered l j m) (answered_kept l j m k) (answered_silent m l j).0 (ap (any is_ack) (answered_silent m l j).1))
            (λ e. maybe_cases (Goes this) _ _ (reason_of m l j)
            (λ f. replying_goes (carried_out l t j m) (λ o d. carried_lays (gives o) m k l j d f (read_by connected heard e f)))
            (λ reason f. quiet (refuses l j m reason) (refuses_kept l j m reason k) (refuses_silent m l j reason).0 (refuses_silent m l j reason).1))

    sends_silent : (l : ℕ) (id : Bytes) (d : Due) → (sends l t id m d).issues ≡ []
    unfolding sends
    sends_silent l id d = refl

    pub goes : (act : Act) → first_of (conditions m t act) ≡ none → Goes act (effect_of m t act)
    unfolding effect_of conditions connects closes
    goes (connect l) f = silent _ _ k refl refl
    goes (disconnect l) f = silent _ _ (closed_kept l m k) refl refl
    goes (packet l random bytes room) f =
        maybe_cases (Goes (packet l random bytes room)) (only m) _ (read_packet bytes) (λ e. quiet l random bytes room (only m) k refl refl)
        (λ j e. received_goes l random bytes room (own_identity random) j e connected (rw e at heard))
      where
        connected : (life_at m l).connected ≡ true
        connected = no_not _ (none_at (conditions m t (packet l random bytes room)) f (later (later (later (later first)))))

        heard : is_ignored (life_at m l) (read_packet bytes) ≡ false
        heard = none_at (conditions m t (packet l random bytes room)) f (later (later (later (later (later first)))))
    goes (alarm_input i active) f =
        input_lays _ m k i active (omega (arith, k.alarm_count, leb-false (length m.setup.table.alarms) i (none_at (conditions m t (alarm_input i active)) f first))) refl
    goes (status_value i v) f =
        becomes_lays _ m k i v (omega (arith, k.status_count, leb-false (length m.setup.table.statuses) i (none_at (conditions m t (status_value i v)) f first))) refl
    goes (aggregated_value v) f = aggregates_lays _ m k v refl
    goes tick f = ticks_lays _ m k refl
    goes (pump l random room) f =
        maybe_cases (Goes (pump l random room)) (only m) _ (due m l t) (λ e. silent _ _ k refl refl)
        (λ d e. silent _ _ (sends_kept l t (own_identity random) m d k) (sends_silent l (own_identity random) d) refl)

-- ---- of every run
start_alarm : (rows : List Row) (time i : ℕ) → i < length rows → get_or (map (λ (r : Row). alarm_of false true false Issue time) rows) i (alarm_of false true false Issue 0) ≡ alarm_of false true false Issue time
start_alarm [] time i f = absurd (omega arith)
start_alarm (r ∷ rows) time zero f = refl
start_alarm (r ∷ rows) time (suc i) f = start_alarm rows time i (omega arith)

abbrev unvalued : Row → Option ℤ
unvalued r = none

start_value : (rows : List Row) (i : ℕ) → get_or (map unvalued rows) i none ≡ none
start_value [] i = refl
start_value (r ∷ rows) zero = refl
start_value (r ∷ rows) (suc i) = start_value rows i

start_kept : (s : Start) (t : Table) → KeptBy s.time [] (made t s)
start_kept s t =
    record {
      alarm_count = length-map (λ (r : Row). alarm_of false true false Issue s.time) t.alarms;
      status_count = length-map unvalued t.statuses;
      alarms = λ i f. start_alarm t.alarms s.time i (omega (arith, f, length-map (λ (r : Row). alarm_of false true false Issue s.time) t.alarms));
      statuses = start_value t.statuses;
      aggregate = refl;
      change = refl;
      subscriptions = λ l i. refl;
    }

pub run_kept : {s : Start} {h : List Past} {m : Machine} → Run s h m → KeptBy s.time h m
run_kept {s} (begun (begins {t} x e g)) = start_kept s t
run_kept {s} (begun_beside (begins {t} x e g) o two) = start_kept s t
run_kept (other_starts r b two) = run_kept r
run_kept (other_calls r q n c) = run_kept r
run_kept {s} (next {h = h} {m = m} c r) =
    by_number m c
    (λ e. rw (step_done m c e) (goes s.time h m (run_kept r) (run_told r) c.time c.act e).kept)
    (λ n e. rw (step_refused m c n e) (extended s.time (record { call = c; gave = refused n }) h m (run_kept r) refl))

issues_done : {s : Start} {h : List Past} {m : Machine} → Run s h m → (c : Call) → number_of m c ≡ none
    → issued_by m c ≡ issued m.setup s.time (λ l. is_up (life_at (step m c).1 l)) (past m c) h
issues_done {s} {h} {m} r c e =
    rw (step_done m c e) ((goes s.time h m (run_kept r) (run_told r) c.time c.act e).issues
    ∙ ap (λ (u : Setup). issued u s.time (λ l. is_up (life_at (laid m c).leaves l)) (record { call = c; gave = outcome (laid m c) }) h) (rw (step_done m c e) at (same_setup r c)))

pub demand_issues : DemandIssues
demand_issues = record { issues = λ s h m r c d. issues_done r c (done_number m c d) }
