-- An entry of arg that is looked up once: what was found of its four names, and the entry after it.
-- Assumes nothing.
use Rattle.basis.proofs.Std.{◌≡◌, sym, true, false, List, ℕ, drop, text}
use Rattle.json_text.specs.declared.Read.{Read}
use Rattle.json_text.specs.Ends.{Ends}
use Rattle.json_value.specs.Answers.{Skipped}
use Rattle.json_find.specs.declared.FourFound.{FourFound}
use Rattle.json_find.specs.Entries.{next_entry}
use Rattle.json_find.specs.Four.{Follows, FindsFour}
use Rattle.json_find.proofs.Once.{next_from}
use Rattle.read_head.specs.declared.Verdict.TheVariants.{Bad}
use Rattle.read_head.proofs.Places.{found_word}
use Rattle.read_lists.specs.Items.{begins}
use Rattle.read_lists.proofs.Walk.{begun_start}
use Rattle.read_commands.specs.declared.GotCommand.{GotCommand}
use Rattle.read_commands.specs.Command.{no_command, command_found, Steps}

module _ (s : List ℕ) (i k : ℕ) (w : Skipped s i k) (g : GotCommand) (r : Read) where
  pub object_steps : true ≡ begins 0x7b (drop k s) → (f : FourFound) → FindsFour s k (text "cCI") (text "n") (text "cO") (text "v") f → g ≡ command_found s f → Follows s 0x5d f.end r → Steps s i (record { got = g; next = r })
  object_steps b f x p y =
      let t = drop k s in
      record {
        here = rw (w.rest, ← b, ← found_word s t k (text "cCI") f.first x.one, ← found_word s t k (text "n") f.second x.two, ← found_word s t k (text "cO") f.third x.three, ← found_word s t k (text "v") f.fourth x.four) p;
        on = next_from s 0x5d i k (begun_start s i k 0x7b w (sym b)) f.end r x.whole y;
      }

  pub other_steps : false ≡ begins 0x7b (drop k s) → g ≡ record { verdict = Bad; entry = no_command } → Ends s i (next_entry 0x5d (drop i s)) r → Steps s i (record { got = g; next = r })
  other_steps b p x = record { here = rw (w.rest, ← b) p; on = x }
