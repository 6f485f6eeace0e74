-- The fields of a CommandRequest, or the first reason that applies: cId and arg (each entry cCI, n, cO, v).
-- Assumes nothing.
use Rattle.std.specs.Prelude.{ℕ, ◌+◌, ◌≡◌, List, ltb, pos, drop, set, replicate}
use Rattle.basis.specs.Pick.{pick}
use Rattle.basis.specs.Text.{text}
use Rattle.number.specs.declared.Int.{Int}
use Rattle.number.specs.declared.Int.TheVariants.{Is, No}
use Rattle.label.specs.Label.{no_label}
use Rattle.json_text.specs.Ends.{Ends}
use Rattle.json_value.specs.Grammar.{Json}
use Rattle.json_value.specs.Reader.{skip_ws}
use Rattle.json_find.specs.declared.FourFound.{FourFound}
use Rattle.json_find.specs.Entries.{next_entry}
use Rattle.read_versions.specs.Numeral.{int_in}
use Rattle.read_head.specs.declared.Verdict.{Verdict}
use Rattle.read_head.specs.declared.Verdict.TheVariants.{Good, Missing, Bad}
use Rattle.read_head.specs.declared.GotLabel.{GotLabel}
use Rattle.read_head.specs.Word.{Word, word_found, word_in, word_at}
use Rattle.read_head.specs.Word.Word.{absent, other, word}
use Rattle.read_head.specs.Values.{worst, got_label}
use Rattle.read_lists.specs.Items.{Item, Items, item_at, list_in, list_at}
use Rattle.read_lists.specs.Gather.{gathered}
use Rattle.read_commands.specs.declared.GotValue.{GotValue}
use Rattle.read_commands.specs.declared.CommandEntry.{CommandEntry}
use Rattle.read_commands.specs.declared.GotCommand.{GotCommand}
use Rattle.read_commands.specs.declared.CommandStep.{CommandStep}
use Rattle.read_commands.specs.declared.CommandList.{CommandList}
use Rattle.read_commands.specs.declared.CommandFields.{CommandFields}

abbrev pub no_value : Verdict → GotValue
no_value v = record { verdict = v; value = pos 0 }

abbrev pub valued : Int → GotValue
valued (Is v) = record { verdict = Good; value = v }
valued No = no_value Bad

-- v: the shortest decimal text of a signed 32-bit number
abbrev pub got_value : Word → GotValue
got_value absent = no_value Missing
got_value other = no_value Bad
got_value (word d) = valued (int_in d)

-- cO is any used string, and compared with nothing
abbrev pub command_of : GotLabel → GotLabel → GotLabel → GotValue → GotCommand
command_of c n o v =
    record {
      verdict = worst (worst c.verdict n.verdict) (worst o.verdict v.verdict);
      entry = record { code = c.label; name = n.label; value = v.value };
    }

abbrev pub no_command : CommandEntry
no_command = record { code = no_label; name = no_label; value = pos 0 }

abbrev pub command_by : (List ℕ → Word) → GotCommand
command_by f = command_of (got_label (f (text "cCI"))) (got_label (f (text "n"))) (got_label (f (text "cO"))) (got_value (f (text "v")))

-- an entry that is no object is a Bad value
abbrev pub command_of_item : Item → GotCommand
command_of_item x = pick x.object (command_by x.words) (record { verdict = Bad; entry = no_command })

-- an entry of the elements that were found in s of cCI, n, cO and v
abbrev pub command_found : List ℕ → FourFound → GotCommand
command_found s f =
    command_of (got_label (word_found s f.first)) (got_label (word_found s f.second)) (got_label (word_found s f.third)) (got_value (word_found s f.fourth))

-- the entry at a place, and the place of the next
pub record Steps (s : List ℕ) (at : ℕ) (r : CommandStep) : Type 0 where
  pub here : r.got ≡ command_of_item (item_at (skip_ws (drop at s)))
  pub on : Ends s at (next_entry 0x5d (drop at s)) r.next

abbrev pub no_commands : Verdict → CommandList
no_commands v = record { verdict = v; count = 0; entries = replicate 16 no_command }

-- "`arg` keeps the limits of `sS`"
unfoldable pub push_command : CommandList → GotCommand → CommandList
push_command l g =
    pick (ltb l.count 16)
    (record { verdict = worst l.verdict g.verdict; count = l.count + 1; entries = set l.entries l.count g.entry })
    (record { verdict = worst (worst l.verdict g.verdict) Bad; count = l.count; entries = l.entries })

abbrev pub commands_of : Items → CommandList
commands_of i = gathered (λ l x. push_command l (command_of_item x)) (no_commands Good) (no_commands Missing) (no_commands Bad) i

abbrev pub command_from : GotLabel → CommandList → CommandFields
command_from c l = record { verdict = worst c.verdict l.verdict; component = c.label; count = l.count; entries = l.entries }

abbrev pub fields_by : (List ℕ → Word) → (List ℕ → Items) → CommandFields
fields_by f g = command_from (got_label (f (text "cId"))) (commands_of (g (text "arg")))

-- of a packet's meaning
unfoldable pub command_in : Json → CommandFields
command_in j = fields_by (word_in j) (list_in j)

-- of any text, as the code looks the elements up
unfoldable pub command_at : List ℕ → CommandFields
command_at s = fields_by (word_at (skip_ws s)) (list_at (skip_ws s))
