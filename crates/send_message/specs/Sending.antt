-- The messages that tell a part of the site. `id` is the sixteen bytes of the message's identity.
-- Assumes nothing.
use Rattle.std.specs.Prelude.{ℕ, ◌%◌, Bool, false, List, [], ◌∷◌, eqb}
use Rattle.basis.specs.Pick.{pick}
use Rattle.label.specs.Label.{text_of}
use Rattle.table_item.specs.declared.Item.{Item}
use Rattle.alarm.specs.declared.Alarm.{Alarm}
use Rattle.status.specs.declared.Status.{Status}
use Rattle.entry.specs.declared.Entry.{Entry}
use Rattle.entry.specs.Flags.{event_of, is_acknowledged, is_active, is_suspended, is_known, is_old}
use Rattle.number.specs.Signed.{signed_of}
use Rattle.write_message.specs.declared.AlarmState.{AlarmState}
use Rattle.write_message.specs.declared.Value.{Value}
use Rattle.write_message.specs.declared.Value.TheVariants.{Recent, Old, Unknown}
use Rattle.write_message.specs.declared.Told.TheVariants.{Update}
use Rattle.write_message.specs.Message.{Message, status}
use Rattle.write_message.specs.Message.{Status as Told}
use Rattle.write_message.specs.Message.Message.{alarm, aggregated, statuses}
use Rattle.site.specs.declared.Site.{Site}
use Rattle.site.specs.Parts.{alarm_at, component_at, alarm_row_at, status_row_at}

-- the text of the component's id
abbrev pub component_text : Site → ℕ → List ℕ
component_text s k = text_of (component_at s k)

-- an alarm's states, last event and its time, and its row's category and priority
abbrev pub state_of : Alarm → Item → AlarmState
state_of a row =
    record {
      time = a.time;
      event = a.event;
      category = row.category;
      priority = row.priority;
      acknowledged = eqb a.acknowledged 1;
      active = eqb a.active 1;
      suspended = eqb a.suspended 1;
    }

-- the same out of a record
abbrev pub held_state : Entry → Item → AlarmState
held_state e row =
    record {
      time = e.time;
      event = event_of e.flags;
      category = row.category;
      priority = row.priority;
      acknowledged = is_acknowledged e.flags;
      active = is_active e.flags;
      suspended = is_suspended e.flags;
    }

abbrev pub alarm_told : Site → List ℕ → Item → AlarmState → Message
alarm_told s id row state = alarm id (component_text s row.component) (text_of row.code) state

-- alarm k as it is
abbrev pub alarm_message : Site → List ℕ → ℕ → Message
alarm_message s id k = alarm_told s id (alarm_row_at s k) (state_of (alarm_at s k) (alarm_row_at s k))

-- "Component 0 carries the aggregated status"; the eight booleans are the low byte
abbrev pub aggregated_told : Site → List ℕ → ℕ → ℕ → Message
aggregated_told s id time value = aggregated id (component_text s 0) time (value % 256)

-- as it is, with the time of its last change
abbrev pub aggregated_message : Site → List ℕ → Message
aggregated_message s id = aggregated_told s id s.aggregated.time s.aggregated.value

-- a word of 32 bits that is known, old or not
abbrev pub known_value : Bool → ℕ → Value
known_value old w = pick old (Old (signed_of w)) (Recent (signed_of w))

-- "an unknown value stays unknown"
abbrev pub value_of : Bool → Status → Value
value_of old x = pick (eqb x.known 1) (known_value old x.value) Unknown

-- as it is
abbrev pub status_value : Status → Value
status_value x = value_of false x

-- as its record says: the flag that it was issued with decides, however its link stands now
abbrev pub held_value : Entry → Value
held_value e = pick (is_known e.flags) (known_value (is_old e.flags) e.value) Unknown

-- a row's entry with this value
abbrev pub row_told : Item → Value → Told
row_told row v = status (text_of row.code) (text_of row.name) v

-- a StatusUpdate with one entry
abbrev pub status_told : Site → List ℕ → Item → ℕ → Value → Message
status_told s id row time v = statuses Update id (component_text s row.component) time (row_told row v ∷ [])

-- a held record: an alarm (kind 0) with its states, a status (1) with its value, else the aggregated value, each with its own time
abbrev pub entry_message : Site → List ℕ → Entry → Message
entry_message s id e =
    pick (eqb e.kind 0) (alarm_told s id (alarm_row_at s e.item) (held_state e (alarm_row_at s e.item)))
    (pick (eqb e.kind 1) (status_told s id (status_row_at s e.item) e.time (held_value e))
    (aggregated_told s id e.time e.value))
