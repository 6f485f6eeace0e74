-- Demand 2: "Each call .. sends .. what that document lays down and nothing else": what a pump tells.
-- Assumes nothing.
use Rattle.std.specs.Prelude.{ℕ, ◌<◌, ◌≡◌, List, length}
use Rattle.basis.specs.Lists.{Among}
use Rattle.identity.specs.Version.{version4_of}
use Rattle.entry.specs.declared.Entry.{Entry}
use Rattle.entry.specs.declared.Unpacked.TheVariants.{Accepted}
use Rattle.entry.specs.Reading.{Reads}
use Rattle.table_whole.specs.Table.{Table}
use Rattle.write_message.specs.Message.{Message}
use Rattle.write_message.specs.Message.Message.{version, watchdog}
use Rattle.machine.specs.Words.{Bytes}
use Rattle.machine.specs.State.{Start, Machine, Call}
use Rattle.machine.specs.State.Act.{pump}
use Rattle.machine.specs.Table.{alarm_row}
use Rattle.machine.specs.Readings.{reading}
use Rattle.machine.specs.Step.{step}
use Rattle.machine.specs.Run.{Past, Run}
use Rattle.demand_told.specs.Demand.{messages_of}
use Rattle.demand_told.specs.Typed.{EachTyped}
use Rattle.demand_issued.specs.History.{alarm_after}
use Rattle.demand_issued.specs.Tells.{message_of}
use Rattle.demand_issued.specs.Replies.{alarm_reply, aggregated_reply}

-- our Version, a Watchdog, the AggregatedStatus or an Alarm as the calls of h tell it, or one of the records of link l that the reading shows
pub data Pumped (m : Machine) (start : ℕ) (h : List Past) (now l : ℕ) (id : Bytes) : Message → Type 0 where
  our_version : Pumped m start h now l id (version id m.setup.table.site m.setup.table.sxl)
  our_watchdog : Pumped m start h now l id (watchdog id now)
  the_aggregated : Pumped m start h now l id (aggregated_reply m.setup start h now id)
  an_alarm : {i : ℕ} → i < length m.setup.table.alarms
      → Pumped m start h now l id (alarm_reply m.setup start h now id (alarm_row m.setup.table i) (alarm_after m.setup.table i start h))
  a_record : {bytes : Bytes} {e : Entry} → Among bytes (reading m l).records → Reads bytes (Accepted e) → Pumped m start h now l id (message_of m.setup.table id e)

pub record DemandPumps : Type 0 where
  pub pumps : (s : Start) (h : List Past) (m : Machine) → Run s h m → EachTyped h → (c : Call) (l room : ℕ) (random : Bytes) → c.act ≡ pump l random room
      → (w : Message) → Among w (messages_of (step m c).0) → Pumped m s.time h c.time l (version4_of random) w
