-- A component, an alarm, a status or a command is found in the table as it is kept exactly where the machine finds it. proofs/Lookups.antt proves it.
-- Assumes nothing.
use Rattle.std.specs.Prelude.{ℕ, ◌<◌, ◌≡◌, ℤ, length, get_or}
use Rattle.std.proofs.Math.Option.{Option, some}
use Rattle.label.specs.Label.{label_of, text_of}
use Rattle.table_item.specs.Item.{no_item}
use Rattle.table_whole.specs.Table.{Table}
use Rattle.table_whole.specs.Allowed.{Allowed}
use Rattle.table_whole.specs.Memory.{memory_of}
use Rattle.read_lists.specs.declared.StatusEntry.{StatusEntry}
use Rattle.read_commands.specs.declared.CommandEntry.{CommandEntry}
use Rattle.packet_lookup.specs.declared.Sought.{Sought}
use Rattle.packet_lookup.specs.declared.Sought.TheVariants.{Is, Nothing}
use Rattle.packet_lookup.specs.declared.SoughtAlarm.TheVariants.{Alarm, NoComponent, NoAlarm}
use Rattle.packet_lookup.specs.Sought.{component_sought, alarm_sought, status_sought, command_sought}
use Rattle.packet_command.specs.Commanding.{in_range}
use Rattle.machine.specs.Words.{Bytes, maybe}
use Rattle.machine.specs.Table.{component_of, alarm_number, status_number, command_number, command_row}
use Rattle.machine.specs.Answers.{in_range as in_range_of}

abbrev pub sought_for : Option ℕ → Sought
sought_for o = maybe Nothing Is o

pub record Lookups (t : Table) : Type 0 where
  pub component : (id : Bytes) → component_sought (memory_of t) (label_of id) ≡ sought_for (component_of t id)
  pub alarm : (id code : Bytes)
      → alarm_sought (memory_of t) (label_of id) (label_of code) ≡ maybe NoComponent (λ c. maybe NoAlarm Alarm (alarm_number t c code)) (component_of t id)
  pub status : (c : ℕ) (e : StatusEntry) → status_sought (memory_of t) c e ≡ sought_for (status_number t c (text_of e.code) (text_of e.name))
  pub command : (c : ℕ) (e : CommandEntry) → command_sought (memory_of t) c e ≡ sought_for (command_number t c (text_of e.code) (text_of e.name))
  pub alarm_there : (c : ℕ) (code : Bytes) (i : ℕ) → alarm_number t c code ≡ some i → i < length t.alarms
  pub status_there : (c : ℕ) (code name : Bytes) (i : ℕ) → status_number t c code name ≡ some i → i < length t.statuses
  pub command_there : (c : ℕ) (code name : Bytes) (i : ℕ) → command_number t c code name ≡ some i → i < length t.commands
  -- its range
  pub range : (i : ℕ) → i < length t.commands → (v : ℤ) → in_range (get_or (memory_of t).commands i no_item) v ≡ in_range_of (command_row t i) v

abbrev pub SameLookups : Type 0
SameLookups = (edition : ℕ) (t : Table) → Allowed edition t → Lookups t
