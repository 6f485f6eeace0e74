-- Demand 2: "Each call .. answers .. what that document lays down and nothing else": what a reply tells.
-- Assumes nothing.
use Rattle.std.specs.Prelude.{ℕ, ◌≡◌, Bool, true, false, List, [], ◌∷◌, map, ℤ}
use Rattle.std.proofs.Math.Option.{Option, some, none}
use Rattle.identity.specs.Version.{version4_of}
use Rattle.json_value.specs.Grammar.{Json}
use Rattle.table_whole.specs.Table.{Row, Table}
use Rattle.write_message.specs.declared.AlarmState.{AlarmState}
use Rattle.write_message.specs.declared.Value.{Value}
use Rattle.write_message.specs.declared.Value.TheVariants.{Recent, Unknown, Undefined}
use Rattle.write_message.specs.declared.Told.TheVariants.{Response}
use Rattle.write_message.specs.Message.{Message, Status, status}
use Rattle.write_message.specs.Message.Message.{ack, alarm, aggregated, statuses, included}
use Rattle.machine.specs.Words.{Bytes, if'◌then◌else◌, ◌and◌, maybe, is_number}
use Rattle.machine.specs.State.{event_number, Alarm, Setup, Start, Machine, Call}
use Rattle.machine.specs.State.Act.{packet}
use Rattle.machine.specs.Json.{string_of, entries_of, element_is, is_type, is_included, asks_for}
use Rattle.machine.specs.Table.{component_text, component_of, alarm_row}
use Rattle.machine.specs.Step.{step}
use Rattle.machine.specs.Run.{Past, past, Run}
use Rattle.demand_told.specs.Demand.{messages_of}
use Rattle.demand_issued.specs.History.{did, alarm_named, status_named, alarm_after, last_aggregated, change_time, last_value}

-- after the calls of h, since a start at a time, in a call at this time with this identity
module _ (u : Setup) (start : ℕ) (h : List Past) (now : ℕ) (id : Bytes) where
  -- "with states, last event and its time"
  abbrev pub alarm_reply : Row → Alarm → Message
  alarm_reply r a =
      alarm id (component_text u.table r.component) r.code
      (record {
        time = a.time;
        event = event_number a.event;
        category = r.category;
        priority = r.priority;
        acknowledged = a.acknowledged;
        active = a.active;
        suspended = a.suspended;
      })

  abbrev pub aggregated_reply : Message
  aggregated_reply = aggregated id (component_text u.table 0) (change_time start h) (last_aggregated h)

  -- "A status without a value so far: `s` null, `q` unknown. Otherwise .. recent"; of an unknown component undefined
  abbrev pub entry_reply : Json → Json → Status
  entry_reply j e =
      status (string_of "sCI" e) (string_of "n" e)
      (maybe Undefined (λ c. maybe Unknown (λ i. maybe Unknown (λ v. Recent v) (last_value i h)) (status_named u.table j e)) (component_of u.table (string_of "cId" j)))

  abbrev pub reply_to : ℕ → Json → List Message
  reply_to l j =
      if' is_type "Alarm" j and element_is "aSp" "Request" j and is_number l u.primary then
      maybe [] (λ i. alarm_reply (alarm_row u.table i) (alarm_after u.table i start h) ∷ []) (alarm_named u.table j)
      else if' is_type "AggregatedStatusRequest" j then aggregated_reply ∷ []
      else if' is_type "StatusRequest" j then statuses Response id (string_of "cId" j) now (map (entry_reply j) (entries_of "sS" j)) ∷ []
      else []

  -- MessageAck and the reply; request 04: the response that carries it
  abbrev pub answer_to : ℕ → Json → List Message
  answer_to l j =
      if' is_included "StatusRequest" j then included Response (string_of "mId" j) (string_of "cId" j) now (map (entry_reply j) (entries_of "sS" j)) ∷ []
      else ack (string_of "mId" j) ∷ reply_to l j

-- a packet that is acknowledged and is no CommandRequest of either form gets exactly this
pub record DemandReplies : Type 0 where
  pub replies : (s : Start) (h : List Past) (m : Machine) → Run s h m → (c : Call) (l room : ℕ) (random bytes : Bytes) (j : Json)
      → c.act ≡ packet l random bytes room → (did (past m c)).took ≡ some (l, j) → asks_for "CommandRequest" j ≡ false
      → messages_of (step m c).0 ≡ answer_to m.setup s.time h c.time (version4_of random) l j
