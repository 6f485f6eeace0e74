-- What a CommandRequest comes to, and one whose response carries the acknowledgement.
-- Assumes nothing.
use Rattle.std.specs.Prelude.{ℕ, zero, suc, Bool, true, List, [], ◌∷◌, ◌++◌, ℤ, get_or}
use Rattle.basis.specs.Pick.{pick, both}
use Rattle.number.specs.Signed.{signed16_of, at_most}
use Rattle.label.specs.Label.{text_of}
use Rattle.table_item.specs.declared.Item.{Item}
use Rattle.table_item.specs.Item.{no_item}
use Rattle.table_item.specs.Find.{each}
use Rattle.table_whole.specs.declared.SiteTable.{SiteTable}
use Rattle.read_commands.specs.declared.CommandEntry.{CommandEntry}
use Rattle.read_commands.specs.declared.CommandFields.{CommandFields}
use Rattle.read_commands.specs.Command.{no_command}
use Rattle.write_message.specs.declared.Value.{Value}
use Rattle.write_message.specs.declared.Value.TheVariants.{Recent, Undefined}
use Rattle.write_message.specs.declared.Told.TheVariants.{Command as CommandResponse}
use Rattle.write_message.specs.Message.{Status, status}
use Rattle.site.specs.declared.Site.{Site}
use Rattle.site.specs.Call.{Command}
use Rattle.packet_answer.specs.declared.Question.{Question}
use Rattle.packet_answer.specs.Taken.{Taken, not_acked, answering, by_verdict, bad_value, unknown_command}
use Rattle.packet_lookup.specs.declared.Sought.{Sought}
use Rattle.packet_lookup.specs.declared.Sought.TheVariants.{Is, Nothing}
use Rattle.packet_lookup.specs.Sought.{component_sought, command_sought, is_sought}

abbrev pub entry_at : List CommandEntry → ℕ → CommandEntry
entry_at entries i = get_or entries i no_command

-- "lowest and highest value as signed 16-bit numbers"
abbrev pub in_range : Item → ℤ → Bool
in_range row v = both (at_most (signed16_of row.lowest) v) (at_most v (signed16_of row.highest))

-- "a value outside its range is "Bad value"", of a command that is there
abbrev pub within : SiteTable → Sought → ℤ → Bool
within t (Is k) v = in_range (get_or t.commands k no_item) v
within t Nothing v = true

abbrev pub all_within : SiteTable → ℕ → List CommandEntry → ℕ → Bool
all_within t component entries n = each (λ i. within t (command_sought t component (entry_at entries i)) (entry_at entries i).value) n

abbrev pub all_commands : SiteTable → ℕ → List CommandEntry → ℕ → Bool
all_commands t component entries n = each (λ i. is_sought (command_sought t component (entry_at entries i))) n

-- "all entries pass or none is done": those of an unknown component pass
abbrev pub keeps_ranges : SiteTable → CommandFields → Sought → Bool
keeps_ranges t f (Is component) = all_within t component f.entries f.count
keeps_ranges t f Nothing = true

abbrev pub passes : SiteTable → CommandFields → Sought → Bool
passes t f (Is component) = all_commands t component f.entries f.count
passes t f Nothing = true

-- "answered with age recent; an unknown component is answered with age undefined and v null"
abbrev pub value_in : Sought → CommandEntry → Value
value_in (Is component) e = Recent e.value
value_in Nothing e = Undefined

unfoldable pub told_of : Sought → CommandEntry → Status
told_of component e = status (text_of e.code) (text_of e.name) (value_in component e)

-- the first n entries, in order
abbrev pub told_to : Sought → List CommandEntry → ℕ → List Status
told_to component entries zero = []
told_to component entries (suc n) = told_to component entries n ++ (told_of component (entry_at entries n) ∷ [])

unfoldable pub told : Sought → CommandFields → List Status
told component f = told_to component f.entries f.count

-- what is handed over: the number of each entry's command, and its value, in order
abbrev pub number_of : Sought → ℕ
number_of (Is k) = k
number_of Nothing = 0

abbrev pub command_of : SiteTable → ℕ → CommandEntry → Command
command_of t component e = record { number = number_of (command_sought t component e); value = e.value }

abbrev pub commands_to : SiteTable → ℕ → List CommandEntry → ℕ → List Command
commands_to t component entries zero = []
commands_to t component entries (suc n) = commands_to t component entries n ++ (command_of t component (entry_at entries n) ∷ [])

abbrev pub commands_of : SiteTable → CommandFields → Sought → List Command
commands_of t f (Is component) = commands_to t component f.entries f.count
commands_of t f Nothing = []

-- of one packet
module _ (s : Site) (q : Question) where
  -- "Bad value" of a range, "Unknown command", "Busy"
  abbrev pub ordered_of : CommandFields → Sought → Taken
  ordered_of f component =
      pick (keeps_ranges s.table f component)
      (pick (passes s.table f component)
      (answering s q CommandResponse (text_of f.component) (told component f) (commands_of s.table f component))
      (not_acked s q unknown_command))
      (not_acked s q bad_value)

  unfoldable pub command_taken : CommandFields → Taken
  command_taken f = by_verdict f.verdict s q (ordered_of f (component_sought s.table f.component))
