-- The claims about CommandRequest are kept.
-- Assumes nothing.
use Rattle.basis.proofs.Std.{ℕ, arith, ◌≡◌, refl, sym, ap, ap₂, ◌∙◌, Bool, true, false, List, [], ◌∷◌, some, ltb, text, bool_cases}
use Rattle.json_value.specs.Grammar.{Json}
use Rattle.json_value.specs.Grammar.Json.{null}
use Rattle.read_head.specs.declared.Verdict.{Verdict}
use Rattle.read_head.specs.declared.Verdict.TheVariants.{Good, Missing, Bad}
use Rattle.read_head.specs.Word.{word_in}
use Rattle.read_head.specs.Values.{worst, got_label}
use Rattle.read_lists.specs.Items.{Item, item_in, list_of, list_in}
use Rattle.read_commands.specs.declared.CommandEntry.{CommandEntry}
use Rattle.read_commands.specs.declared.CommandList.{CommandList}
use Rattle.read_commands.specs.Command.{no_command, command_of_item, no_commands, push_command, commands_of, command_in}
use Rattle.read_commands.proofs.Kept as Commands
use Rattle.machine.specs.Json as Machine
use Rattle.machine.specs.Json.{element, string_at}
use Rattle.machine.specs.Answers as Answers
use Rattle.machine.specs.Answers.{Need, one, ◌is◌, label, commanded, any_entry, needs}
use Rattle.refine_read.specs.Verdicts.{verdict, judged}
use Rattle.refine_read.specs.Commands.{command_of, CommandReads, Claims}
use Rattle.refine_read.proofs.Words.{found_of, element_found, judged_more, both_good}
use Rattle.refine_read.specs.Head.{type_name}
use Rattle.refine_read.proofs.Types.{asked_as}
use Rattle.refine_read.proofs.Fields.{label_judged, label_kept, last_judged}
use Rattle.refine_read.proofs.Kept.{only}
use Rattle.refine_read.proofs.Indexed.{taken_at}
use Rattle.refine_read.proofs.Gathered.{Pushes, Holds, entries_of, list_judged, list_holds}
use Rattle.refine_read.proofs.Entries.{is_missing, is_bad}
use Rattle.refine_read.proofs.Commands.{item_judged, item_asks}

abbrev said : CommandList → Verdict
said l = l.verdict

abbrev one_said : Json → Verdict
one_said x = (command_of_item (item_in x)).verdict

abbrev value : Json → CommandEntry
value x = (command_of_item (item_in x)).entry

abbrev push : CommandList → Item → CommandList
push l x = push_command l (command_of_item x)

abbrev count : CommandList → ℕ
count l = l.count

abbrev list : CommandList → List CommandEntry
list l = l.entries

pushes : (l : CommandList) (x : Json) → Pushes said count list one_said value l (push l (item_in x)) x
unfolding push_command
pushes l x = bool_cases (ltb l.count 16)
    (λ t. record { judged = rw t; counted = rw t; holds = rw t })
    (λ f. record { judged = rw f; counted = rw f; holds = rw f })

abbrev the_entries : Need
the_entries = Answers.entries "arg" commanded any_entry

command_needs : (older : Bool) (j : Json) (included : Bool) → string_at "type" j ≡ some (type_name "CommandRequest" included)
    → needs older j ≡ one ("cId" is label) ∷ the_entries ∷ []
unfolding needs
command_needs older j false e = rw e
command_needs older j true e = rw e

module _ (j : Json) where
  list_in_lem : list_in j (text "arg") ≡ list_of (found_of (element "arg" j))
  unfolding list_in
  list_in_lem = ap list_of (element_found j "arg")

  abbrev the_list : CommandList
  the_list = commands_of (list_in j (text "arg"))

  entries_judged : the_list.verdict ≡ verdict (Answers.is_missing j the_entries) (Answers.is_bad j the_entries)
  entries_judged =
      ap (λ i. (commands_of i).verdict) list_in_lem
      ∙ list_judged said count list one_said value push pushes (is_missing commanded) (is_bad commanded any_entry) item_judged
      (no_commands Good) (no_commands Missing) (no_commands Bad) refl refl refl refl (element "arg" j)

  entries_held : the_list.verdict ≡ Good → Holds the_list count list command_of (entries_of (element "arg" j))
  entries_held g =
      rw list_in_lem
      (list_holds said count list one_said value push pushes (is_missing commanded) (is_bad commanded any_entry) item_judged
      (no_commands Good) (no_commands Missing) (no_commands Bad) refl refl refl refl command_of item_asks refl (element "arg" j) (rw list_in_lem at g))

  parts : (command_in j).verdict ≡ Good → ((got_label (word_in j (text "cId"))).verdict ≡ Good) × (the_list.verdict ≡ Good)
  unfolding command_in
  parts g = both_good (got_label (word_in j (text "cId"))).verdict the_list.verdict g

  command_reads : CommandReads j (command_in j)
  unfolding command_in
  command_reads =
      record {
        verdict = λ older e.
            ap₂ worst (label_judged j "cId") (entries_judged ∙ sym (last_judged j the_entries))
            ∙ sym (judged_more j (one ("cId" is label)) (the_entries ∷ []))
            ∙ ap (judged j) (sym (asked_as j "CommandRequest" e (command_needs older j)));
        component = λ g. label_kept j "cId" (parts g).0;
        entries = λ g. (entries_held (parts g).1).all;
        at = λ g.
            let h = entries_held (parts g).1 in
            taken_at command_of null no_command the_list.count the_list.entries (Machine.entries_of "arg" j) h.all h.counted;
        count = λ g. (entries_held (parts g).1).counted;
        most = λ g. let h = entries_held (parts g).1 in omega (arith, h.counted, h.most);
      }

pub kept : Claims
kept = record { commands = λ s j e. rw ((Commands.kept).command (only e)) (command_reads j) }
