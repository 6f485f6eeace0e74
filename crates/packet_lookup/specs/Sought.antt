-- What a packet names, looked up in the site table.
-- Assumes nothing.
use Rattle.std.specs.Prelude.{ℕ, Bool, true, false, List, ltb, get_or}
use Rattle.basis.specs.Pick.{pick}
use Rattle.label.specs.declared.Label.{Label}
use Rattle.label.specs.Label.{text_of}
use Rattle.table_item.specs.declared.Found.{Found}
use Rattle.table_item.specs.declared.Found.TheVariants.{At, Nothing as Missing}
use Rattle.table_item.specs.Find.{each}
use Rattle.table_whole.specs.declared.SiteTable.{SiteTable}
use Rattle.table_whole.specs.Lookup.{find_component, find_alarm, find_status, find_command}
use Rattle.read_lists.specs.declared.StatusEntry.{StatusEntry}
use Rattle.read_lists.specs.Status.{no_entry}
use Rattle.read_commands.specs.declared.CommandEntry.{CommandEntry}
use Rattle.packet_lookup.specs.declared.Sought.{Sought}
use Rattle.packet_lookup.specs.declared.Sought.TheVariants.{Is, Nothing}
use Rattle.packet_lookup.specs.declared.SoughtAlarm.{SoughtAlarm}
use Rattle.packet_lookup.specs.declared.SoughtAlarm.TheVariants.{Alarm, NoComponent, NoAlarm}

-- no table has more than 32 components, alarms, statuses or commands
abbrev pub numbered : Found → Sought
numbered (At i) = pick (ltb i 32) (Is i) Nothing
numbered Missing = Nothing

abbrev pub component_sought : SiteTable → Label → Sought
component_sought t id = numbered (find_component t (text_of id))

-- an alarm of a component
abbrev pub alarm_in : SiteTable → ℕ → Label → Sought
alarm_in t component code = numbered (find_alarm t component (text_of code))

abbrev pub or_no_alarm : Sought → SoughtAlarm
or_no_alarm (Is k) = Alarm k
or_no_alarm Nothing = NoAlarm

abbrev pub alarm_of : SiteTable → Label → Sought → SoughtAlarm
alarm_of t code (Is component) = or_no_alarm (alarm_in t component code)
alarm_of t code Nothing = NoComponent

-- an alarm by its component's id and its code
abbrev pub alarm_sought : SiteTable → Label → Label → SoughtAlarm
alarm_sought t id code = alarm_of t code (component_sought t id)

-- a status of a component, as an entry of a packet names it
abbrev pub status_sought : SiteTable → ℕ → StatusEntry → Sought
status_sought t component e = numbered (find_status t component (text_of e.code) (text_of e.name))

-- a command of a component, as an entry of a packet names it
abbrev pub command_sought : SiteTable → ℕ → CommandEntry → Sought
command_sought t component e = numbered (find_command t component (text_of e.code) (text_of e.name))

abbrev pub is_sought : Sought → Bool
is_sought (Is k) = true
is_sought Nothing = false

abbrev pub entry_at : List StatusEntry → ℕ → StatusEntry
entry_at entries i = get_or entries i no_entry

-- each of the first n entries is a status of the component
abbrev pub all_statuses : SiteTable → ℕ → List StatusEntry → ℕ → Bool
all_statuses t component entries n = each (λ i. is_sought (status_sought t component (entry_at entries i))) n
