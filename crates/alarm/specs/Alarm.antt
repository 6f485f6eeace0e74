-- One alarm's rules: document 01, "Alarms and subscriptions", first paragraph.
-- Assumes nothing.
use Rattle.std.specs.Prelude.{ℕ, Bool, true, false, eqb}
use Rattle.basis.specs.Pick.{pick, bit}
use Rattle.alarm.specs.declared.Alarm.{Alarm}
use Rattle.alarm.specs.declared.Changed.{Changed}
use Rattle.alarm.specs.declared.Order.{Order}
use Rattle.alarm.specs.declared.Order.TheVariants.{Acknowledge, Suspend, Resume}

-- an alarm starts inactive, acknowledged, not suspended, last event Issue at start
abbrev pub beginning : ℕ → Alarm
beginning time = record { time = time; event = 0; acknowledged = 1; active = 0; suspended = 0 }

abbrev pub nothing : Alarm → Changed
nothing a = record { alarm = a; happened = false; records = false }

abbrev pub event : Alarm → Bool → Changed
event a records = record { alarm = a; happened = true; records = records }

-- the alarm after an Issue event: becoming active clears the acknowledgement
abbrev pub issued : Alarm → Bool → ℕ → Alarm
issued a active time =
    record { time = time; event = 0; acknowledged = pick active 0 a.acknowledged; active = bit active; suspended = a.suspended }

-- an input equal to the state does nothing; another is an Issue event, which makes no record while the alarm is suspended
unfoldable pub input_of : Alarm → Bool → ℕ → Changed
input_of a active time =
    pick (eqb a.active (bit active)) (nothing a)
    (event (issued a active time) (eqb a.suspended 0))

-- an order that changes nothing makes no event; a change makes one, aSp Acknowledge (1) or Suspend (2), with a record
unfoldable pub acknowledge_of : Alarm → ℕ → Changed
acknowledge_of a time =
    pick (eqb a.acknowledged 1) (nothing a)
    (event (record { time = time; event = 1; acknowledged = 1; active = a.active; suspended = a.suspended }) true)

unfoldable pub suspend_of : Alarm → Bool → ℕ → Changed
suspend_of a suspended time =
    pick (eqb a.suspended (bit suspended)) (nothing a)
    (event (record { time = time; event = 2; acknowledged = a.acknowledged; active = a.active; suspended = bit suspended }) true)

abbrev pub order_of : Alarm → Order → ℕ → Changed
order_of a Acknowledge time = acknowledge_of a time
order_of a Suspend time = suspend_of a true time
order_of a Resume time = suspend_of a false time
