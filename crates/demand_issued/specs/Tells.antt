-- Demand 2: a message that carries a record tells what the sixteen bytes of that record tell.
-- Assumes nothing.
use Rattle.std.specs.Prelude.{ℕ, ◌≡◌, List, [], ◌∷◌, eqb}
use Rattle.std.proofs.Math.Option.{none}
use Rattle.basis.specs.Lists.{Among}
use Rattle.number.specs.Signed.{signed_of}
use Rattle.entry.specs.declared.Entry.{Entry}
use Rattle.entry.specs.declared.Unpacked.TheVariants.{Accepted}
use Rattle.entry.specs.Flags.{event_of, is_acknowledged, is_active, is_suspended, is_known, is_old}
use Rattle.entry.specs.Reading.{Reads}
use Rattle.table_whole.specs.Table.{Row, Table}
use Rattle.write_message.specs.declared.AlarmState.{AlarmState}
use Rattle.write_message.specs.declared.Value.{Value}
use Rattle.write_message.specs.declared.Value.TheVariants.{Recent, Old, Unknown}
use Rattle.write_message.specs.declared.Told.TheVariants.{Update}
use Rattle.write_message.specs.Message.{Message, status}
use Rattle.write_message.specs.Message.Message.{alarm, aggregated, statuses}
use Rattle.machine.specs.Words.{Bytes, if'◌then◌else◌}
use Rattle.machine.specs.State.{Start, Machine}
use Rattle.machine.specs.State.Outcome.{done}
use Rattle.machine.specs.Table.{component_text, alarm_row, status_row}
use Rattle.machine.specs.Readings.{reading}
use Rattle.machine.specs.Step.{step}
use Rattle.machine.specs.Run.{Past, Run}
use Rattle.demand_told.specs.Typed.{EachTyped}
use Rattle.demand_carried.specs.Carried.{Carried}

-- aSp, states and time of an alarm's record, with what the table has of the alarm
abbrev pub state_in : Row → Entry → AlarmState
state_in r e =
    record {
      time = e.time;
      event = event_of e.flags;
      category = r.category;
      priority = r.priority;
      acknowledged = is_acknowledged e.flags;
      active = is_active e.flags;
      suspended = is_suspended e.flags;
    }

-- value and quality of a status' record
abbrev pub value_in : Entry → Value
value_in e = if' is_known e.flags then if' is_old e.flags then Old (signed_of e.value) else Recent (signed_of e.value) else Unknown

-- the Alarm, StatusUpdate or AggregatedStatus of a record's fields: kind 0, 1 or 2
abbrev pub message_of : Table → Bytes → Entry → Message
message_of t id e =
    if' eqb e.kind 0 then alarm id (component_text t (alarm_row t e.item).component) (alarm_row t e.item).code (state_in (alarm_row t e.item) e)
    else if' eqb e.kind 1 then
    statuses Update id (component_text t (status_row t e.item).component) e.time
    (status (status_row t e.item).code (status_row t e.item).name (value_in e) ∷ [])
    else aggregated id (component_text t 0) e.time e.value

-- the pump that sent record n of link l wrote the message of the sixteen bytes that the reading then showed under that number
pub record DemandTells : Type 0 where
  pub tells : (s : Start) (h : List Past) (m : Machine) → Run s h m → EachTyped h → (l n : ℕ) (id : Bytes) (sent : Carried s h l n id)
      → (bytes : Bytes) (e : Entry) → Among bytes (reading sent.machine l).records → Reads bytes (Accepted e) → e.sequence ≡ n
      → (step sent.machine sent.call).0 ≡ done (message_of sent.machine.setup.table id e ∷ []) [] none []
