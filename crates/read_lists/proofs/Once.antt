-- An entry of sS that is looked up once: what was found of its four names, and the entry after it.
-- Assumes nothing.
use Rattle.basis.proofs.Std.{◌≡◌, sym, ◌∙◌, true, false, List, ℕ, drop, text}
use Rattle.json_text.specs.declared.Read.{Read}
use Rattle.json_text.specs.Ends.{Ends}
use Rattle.json_value.specs.Answers.{Skipped}
use Rattle.json_find.specs.declared.FourFound.{FourFound}
use Rattle.json_find.specs.Entries.{next_entry}
use Rattle.json_find.specs.Four.{Follows, FindsFour}
use Rattle.json_find.proofs.Once.{next_from}
use Rattle.read_head.specs.declared.Verdict.TheVariants.{Bad}
use Rattle.read_head.specs.Word.{word_at}
use Rattle.read_head.proofs.Places.{found_word}
use Rattle.read_lists.specs.declared.Asking.{Asking}
use Rattle.read_lists.specs.declared.Asking.TheVariants.{Plain, Full, Older}
use Rattle.read_lists.specs.declared.GotEntry.{GotEntry}
use Rattle.read_lists.specs.Items.{begins, flag_at}
use Rattle.read_lists.specs.Status.{no_entry, found_by, entry_by, Steps}
use Rattle.read_lists.proofs.Walk.{begun_start, found_flag}

module _ (s : List ℕ) (k : ℕ) (f : FourFound) (x : FindsFour s k (text "sCI") (text "n") (text "uRt") (text "sOc") f) where
  as_found : (asking : Asking) → found_by asking s f ≡ entry_by asking (word_at (drop k s)) (flag_at (drop k s))
  as_found Plain = rw (found_word s (drop k s) k (text "sCI") f.first x.one, found_word s (drop k s) k (text "n") f.second x.two)
  as_found Full =
      rw (
        found_word s (drop k s) k (text "sCI") f.first x.one,
        found_word s (drop k s) k (text "n") f.second x.two,
        found_word s (drop k s) k (text "uRt") f.third x.three,
        found_flag s (drop k s) k (text "sOc") f.fourth x.four,
      )
  as_found Older =
      rw (
        found_word s (drop k s) k (text "sCI") f.first x.one,
        found_word s (drop k s) k (text "n") f.second x.two,
        found_word s (drop k s) k (text "uRt") f.third x.three,
      )

module _ (s : List ℕ) (i k : ℕ) (asking : Asking) (w : Skipped s i k) (g : GotEntry) (r : Read) where
  pub object_steps : true ≡ begins 0x7b (drop k s) → (f : FourFound) → FindsFour s k (text "sCI") (text "n") (text "uRt") (text "sOc") f → g ≡ found_by asking s f → Follows s 0x5d f.end r → Steps s i asking (record { got = g; next = r })
  object_steps b f x p y =
      record {
        here = rw (w.rest, ← b) (p ∙ as_found s k f x asking);
        on = next_from s 0x5d i k (begun_start s i k 0x7b w (sym b)) f.end r x.whole y;
      }

  pub other_steps : false ≡ begins 0x7b (drop k s) → g ≡ record { verdict = Bad; entry = no_entry } → Ends s i (next_entry 0x5d (drop i s)) r → Steps s i asking (record { got = g; next = r })
  other_steps b p x = record { here = rw (w.rest, ← b) p; on = x }
