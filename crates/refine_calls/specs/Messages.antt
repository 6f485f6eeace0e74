-- The messages that tell a part of the site are the machine's.
-- Assumes nothing.
use Rattle.std.specs.Prelude.{ℕ, ◌<◌, ◌≡◌, List, length}
use Rattle.label.specs.Label.{text_of}
use Rattle.table_whole.specs.Memory.{item_of}
use Rattle.site.specs.declared.Site.{Site}
use Rattle.site.specs.Parts.{component_at, alarm_row_at, status_row_at}
use Rattle.send_message.specs.Sending.{alarm_message, aggregated_message, entry_message}
use Rattle.machine.specs.State.{Content, Setup, Machine, alarm_at}
use Rattle.machine.specs.Table.{component_text, alarm_row, status_row}
use Rattle.machine.specs.Messages.{alarm_message as alarm_told, aggregated_message as aggregated_told, record_message}
use Rattle.machine.specs.Readings.{entry_for}
use Rattle.refine_parts.specs.Record.{IsTold}
use Rattle.refine_parts.specs.Setup.{SameSetup}
use Rattle.refine_parts.specs.Items.{SameItems}

-- whatever is looked up in the table, also what is not there
pub record SameTexts (s : Site) (u : Setup) : Type 0 where
  pub site : text_of s.table.site ≡ u.table.site
  pub sxl : text_of s.table.sxl ≡ u.table.sxl
  pub component : (c : ℕ) → text_of (component_at s c) ≡ component_text u.table c
  pub alarm : (i : ℕ) → alarm_row_at s i ≡ item_of (alarm_row u.table i)
  pub status : (i : ℕ) → status_row_at s i ≡ item_of (status_row u.table i)

pub record SameMessages (s : Site) (m : Machine) (id : List ℕ) : Type 0 where
  pub alarm : (i : ℕ) → i < length m.alarms → alarm_message s id i ≡ alarm_told m.setup.table id i (alarm_at m i)
  pub aggregated : aggregated_message s id ≡ aggregated_told m.setup.table id m.aggregated m.aggregated_time
  -- a record's entry, for whatever link and under whatever number
  pub held : (l n : ℕ) (c : Content) → IsTold c → entry_message s id (entry_for l n c) ≡ record_message m.setup.table id c

pub record Messages : Type 0 where
  pub texts : (s : Site) (u : Setup) → SameSetup s u → SameTexts s u
  pub messages : (s : Site) (m : Machine) → SameItems s m → (id : List ℕ) → SameMessages s m id
