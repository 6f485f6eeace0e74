-- The fields of a CommandRequest, by either type, in the machine's words; proofs/CommandsKept.antt proves it.
-- Assumes nothing.
use Rattle.std.specs.Prelude.{ℕ, ◌≤◌, ◌<◌, ◌≡◌, Bool, true, map, length, take, get_or}
use Rattle.std.proofs.Math.Option.{some}
use Rattle.label.specs.Label.{label_of}
use Rattle.json_value.specs.Grammar.{Json}
use Rattle.json_value.specs.Grammar.Json.{null}
use Rattle.read_head.specs.declared.Verdict.TheVariants.{Good}
use Rattle.read_commands.specs.declared.CommandEntry.{CommandEntry}
use Rattle.read_commands.specs.declared.CommandFields.{CommandFields}
use Rattle.read_commands.specs.Command.{no_command, command_at}
use Rattle.machine.specs.Words.{Bytes}
use Rattle.machine.specs.Json.{read_packet, string_of, entries_of, asks_for}
use Rattle.machine.specs.Answers.{value_asked}
use Rattle.refine_read.specs.Verdicts.{verdict_in}

-- "each entry needs cCI, n, cO (any used string) and v"
abbrev pub command_of : Json → CommandEntry
command_of e = record { code = label_of (string_of "cCI" e); name = label_of (string_of "n" e); value = value_asked e }

pub record CommandReads (j : Json) (f : CommandFields) : Type 0 where
  pub verdict : (older : Bool) → asks_for "CommandRequest" j ≡ true → f.verdict ≡ verdict_in older j
  pub component : f.verdict ≡ Good → f.component ≡ label_of (string_of "cId" j)
  -- all entries, in order, "at most 16"
  pub entries : f.verdict ≡ Good → take f.count f.entries ≡ map command_of (entries_of "arg" j)
  pub at : f.verdict ≡ Good → (i : ℕ) → i < f.count → get_or f.entries i no_command ≡ command_of (get_or (entries_of "arg" j) i null)
  pub count : f.verdict ≡ Good → f.count ≡ length (entries_of "arg" j)
  pub most : f.verdict ≡ Good → f.count ≤ 16

pub record Claims : Type 0 where
  pub commands : (s : Bytes) (j : Json) → read_packet s ≡ some j → CommandReads j (command_at s)
