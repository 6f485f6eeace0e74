-- What the calls of a history tell, LATEST FIRST: the last input, order, value and subscription. Nothing here looks at what the machine keeps.
-- Assumes nothing.
use Rattle.std.specs.Prelude.{ℕ, ◌+◌, ◌*◌, Bool, true, false, not, List, [], ◌∷◌, eqb, ltb, leb, ℤ}
use Prim.Native.String.{String}
use Rattle.std.proofs.Math.Option.{Option, some, none}
use Rattle.basis.specs.Lists.{same_bytes}
use Rattle.json_value.specs.Grammar.{Json}
use Rattle.table_whole.specs.Table.{Table}
use Rattle.write_message.specs.Message.{Message}
use Rattle.write_message.specs.Message.Message.{version, watchdog, ack, not_ack, alarm, aggregated, statuses, included}
use Rattle.machine.specs.Words.{if'◌then◌else◌, ◌and◌, ◌or◌, alike, maybe, or_else, is_number, any}
use Rattle.machine.specs.State.{Event, Alarm, alarm_of, Act, Outcome}
use Rattle.machine.specs.State.Event.{Issue, Acknowledge, Suspend}
use Rattle.machine.specs.State.Act.{connect, disconnect, packet, alarm_input, status_value, aggregated_value, tick, pump}
use Rattle.machine.specs.State.Outcome.{refused, done}
use Rattle.machine.specs.Json.{read_packet, string_of, boolean_of, entries_of, element_is, is_type, number_in, version_in}
use Rattle.machine.specs.Table.{component_of, alarm_number, status_number}
use Rattle.machine.specs.Run.{Past}

-- ---- what a done call did: an alarm's input, a status' value, an aggregated value, a packet on a link that it acknowledged, a tick
pub record Did : Type 0 where
  pub input : Option (ℕ × Bool)
  pub value : Option (ℕ × ℤ)
  pub aggregate : Option ℕ
  pub took : Option (ℕ × Json)
  pub ticked : Bool

abbrev pub doing : Option (ℕ × Bool) → Option (ℕ × ℤ) → Option ℕ → Option (ℕ × Json) → Bool → Did
doing input value aggregate took ticked = record { input = input; value = value; aggregate = aggregate; took = took; ticked = ticked }

-- MessageAck, or a response that carries it
abbrev pub is_ack : Message → Bool
is_ack (version id site sxl) = false
is_ack (watchdog id t) = false
is_ack (ack id) = true
is_ack (not_ack id reason) = false
is_ack (alarm id component code state) = false
is_ack (aggregated id component t v) = false
is_ack (statuses kind id component t entries) = false
is_ack (included kind received component t entries) = true

abbrev pub took : ℕ → List Message → Option Json → Option (ℕ × Json)
took l messages received = if' any is_ack messages then maybe none (λ j. some (l, j)) received else none

abbrev pub done_by : Act → List Message → Did
done_by (connect l) messages = doing none none none none false
done_by (disconnect l) messages = doing none none none none false
done_by (packet l random bytes room) messages = doing none none none (took l messages (read_packet bytes)) false
done_by (alarm_input i active) messages = doing (some (i, active)) none none none false
done_by (status_value i v) messages = doing none (some (i, v)) none none false
done_by (aggregated_value v) messages = doing none none (some v) none false
done_by tick messages = doing none none none none true
done_by (pump l random room) messages = doing none none none none false

abbrev pub did_by : Act → Outcome → Did
did_by act (refused n) = doing none none none none false
did_by act (done messages closed hint commands) = done_by act messages

abbrev pub did : Past → Did
did p = did_by p.call.act p.gave

-- ---- the alarm or status that a packet names
abbrev pub alarm_named : Table → Json → Option ℕ
alarm_named t j = maybe none (λ c. alarm_number t c (string_of "aCId" j)) (component_of t (string_of "cId" j))

abbrev pub status_named : Table → Json → Json → Option ℕ
status_named t j e = maybe none (λ c. status_number t c (string_of "sCI" e) (string_of "n" e)) (component_of t (string_of "cId" j))

-- ---- alarm i
module _ (t : Table) (i : ℕ) where
  abbrev pub input_to : Past → Option Bool
  input_to p = maybe none (λ x. if' eqb x.0 i then some x.1 else none) (did p).input

  abbrev pub is_order : String → Past → Bool
  is_order word p =
      maybe false (λ x. is_type "Alarm" x.1 and element_is "aSp" word x.1 and is_number i (alarm_named t x.1)) (did p).took

  -- active is the last input; suspended says the last Suspend or Resume
  abbrev pub was_active : List Past → Bool
  was_active [] = false
  was_active (p ∷ h) = or_else (was_active h) (input_to p)

  abbrev pub was_suspended : List Past → Bool
  was_suspended [] = false
  was_suspended (p ∷ h) = if' is_order "Suspend" p then true else if' is_order "Resume" p then false else was_suspended h

  -- "Becoming active clears the acknowledgement", and Acknowledge gives it
  abbrev pub was_acknowledged : List Past → Bool
  was_acknowledged [] = true
  was_acknowledged (p ∷ h) =
      if' is_order "Acknowledge" p then true
      else if' maybe false (λ active. active and not (was_active h)) (input_to p) then false
      else was_acknowledged h

  -- "a change makes one event": of a call after those of h
  abbrev pub event_of : Past → List Past → Option Event
  event_of p h =
      if' maybe false (λ active. not (alike active (was_active h))) (input_to p) then some Issue
      else if' is_order "Acknowledge" p and not (was_acknowledged h) then some Acknowledge
      else if' is_order "Suspend" p and not (was_suspended h) then some Suspend
      else if' is_order "Resume" p and was_suspended h then some Suspend
      else none

  abbrev pub last_event : List Past → Event
  last_event [] = Issue
  last_event (p ∷ h) = or_else (last_event h) (event_of p h)

  abbrev pub event_time : ℕ → List Past → ℕ
  event_time start [] = start
  event_time start (p ∷ h) = maybe (event_time start h) (λ e. p.call.time) (event_of p h)

  abbrev pub alarm_after : ℕ → List Past → Alarm
  alarm_after start h = alarm_of (was_active h) (was_acknowledged h) (was_suspended h) (last_event h) (event_time start h)

-- ---- the aggregated value
abbrev pub last_aggregated : List Past → ℕ
last_aggregated [] = 0
last_aggregated (p ∷ h) = or_else (last_aggregated h) (did p).aggregate

abbrev pub is_other : Past → List Past → Bool
is_other p h = maybe false (λ v. not (eqb v (last_aggregated h))) (did p).aggregate

abbrev pub change_time : ℕ → List Past → ℕ
change_time start [] = start
change_time start (p ∷ h) = if' is_other p h then p.call.time else change_time start h

-- ---- status i: its last value
abbrev pub value_to : ℕ → Past → Option ℤ
value_to i p = maybe none (λ x. if' eqb x.0 i then some x.1 else none) (did p).value

abbrev pub last_value : ℕ → List Past → Option ℤ
last_value i [] = none
last_value i (p ∷ h) = maybe (last_value i h) (λ v. some v) (value_to i p)

-- ---- request 07: "On a link where [3.1.4] is chosen"
abbrev pub lists : List ℕ → Json → Bool
lists v j = any (λ e. maybe false (same_bytes v) (version_in (string_of "vers" e))) (entries_of "RSMP" j)

-- 3.1.4, and neither 3.1.5 nor 3.2
abbrev pub lists_older : Json → Bool
lists_older j = lists (3 ∷ 1 ∷ 4 ∷ []) j and not (lists (3 ∷ 1 ∷ 5 ∷ []) j or lists (3 ∷ 2 ∷ 0 ∷ []) j)

-- the Version that link l took last lists so
abbrev pub was_older : ℕ → List Past → Bool
was_older l [] = false
was_older l (p ∷ h) = maybe (was_older l h) (λ x. if' is_type "Version" x.1 and eqb x.0 l then lists_older x.1 else was_older l h) (did p).took

-- ---- the subscription of link l to status i that stands: uRt, sOc, and the time of "the subscribing call or the last tick that did so"
pub record Standing : Type 0 where
  pub seconds : ℕ
  pub on_change : Bool
  pub since : ℕ

-- "with uRt above 0 at a tick uRt or more after"
abbrev pub is_over : ℕ → Standing → Bool
is_over now s = ltb 0 s.seconds and leb (s.since + 1000 * s.seconds) now

-- request 07, there: "a subscription has no sOc; uRt 0 means send on change and any other number means by interval only"
abbrev pub standing_from : Bool → ℕ → Json → Standing
standing_from older now e =
    record {
      seconds = or_else 0 (number_in 86400 (string_of "uRt" e));
      on_change = if' older then is_number 0 (number_in 86400 (string_of "uRt" e)) else boolean_of "sOc" e;
      since = now;
    }

abbrev pub ticked : ℕ → Standing → Standing
ticked now s = record { seconds = s.seconds; on_change = s.on_change; since = if' is_over now s then now else s.since }

module _ (t : Table) (l i : ℕ) where
  -- "A link has one subscription per status; a new one replaces it": the entries of a packet in order
  abbrev pub subscribed_by : Bool → ℕ → Json → List Json → Option Standing → Option Standing
  subscribed_by older now j [] before = before
  subscribed_by older now j (e ∷ es) before =
      subscribed_by older now j es (if' is_number i (status_named t j e) then some (standing_from older now e) else before)

  abbrev pub standing_by : Bool → ℕ → ℕ × Json → Option Standing → Option Standing
  standing_by older now x before =
      if' not (eqb x.0 l) then before
      else if' is_type "StatusSubscribe" x.1 then subscribed_by older now x.1 (entries_of "sS" x.1) before
      else if' is_type "StatusUnsubscribe" x.1 and any (λ e. is_number i (status_named t x.1 e)) (entries_of "sS" x.1) then none
      else before

  abbrev pub standing : List Past → Option Standing
  standing [] = none
  standing (p ∷ h) =
      if' (did p).ticked then maybe none (λ s. some (ticked p.call.time s)) (standing h)
      else maybe (standing h) (λ x. standing_by (was_older l h) p.call.time x (standing h)) (did p).took
