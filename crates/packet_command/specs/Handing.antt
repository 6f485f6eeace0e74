-- The words of the commands that a packet hands over.
-- Assumes nothing.
use Rattle.std.specs.Prelude.{ℕ, ◌+◌, ◌*◌, ◌^◌, List, ◌++◌, map, length, drop}
use Rattle.number.specs.Signed.{word_of}
use Rattle.table_whole.specs.declared.SiteTable.{SiteTable}
use Rattle.read_commands.specs.Command.{command_at}
use Rattle.packet_lookup.specs.Sought.{component_sought}
use Rattle.site.specs.Call.{Command}
use Rattle.packet_command.specs.Commanding.{commands_of}

-- the number is the high half of its word, the value's 32 bits the low one
abbrev pub command_word : Command → ℕ
command_word c = c.number * 2 ^ 32 + word_of c.value

-- the first words, those behind them as they were
abbrev pub handed_over : List Command → List ℕ → List ℕ
handed_over commands ws = map command_word commands ++ drop (length commands) ws

-- of a packet's bytes
unfoldable pub commands_in : SiteTable → List ℕ → List Command
commands_in t p = commands_of t (command_at p) (component_sought t (command_at p).component)
