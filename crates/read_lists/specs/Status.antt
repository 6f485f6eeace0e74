-- The fields of the three status types, or the first reason that applies: cId and sS (each entry sCI, n; to subscribe also uRt, sOc;
-- request 07, to subscribe in the edition before: also uRt).
-- Assumes nothing.
use Rattle.std.specs.Prelude.{◌≡◌, Bool, true, false, List, ℕ, ◌+◌, ltb, eqb, drop, set, replicate}
use Rattle.basis.specs.Pick.{pick}
use Rattle.basis.specs.Text.{text}
use Rattle.label.specs.Label.{no_label}
use Rattle.json_text.specs.Ends.{Ends}
use Rattle.json_value.specs.Grammar.{Json}
use Rattle.json_value.specs.Reader.{skip_ws}
use Rattle.json_find.specs.declared.FourFound.{FourFound}
use Rattle.json_find.specs.Entries.{next_entry}
use Rattle.read_versions.specs.Numeral.{number_in}
use Rattle.read_head.specs.declared.Verdict.{Verdict}
use Rattle.read_head.specs.declared.Verdict.TheVariants.{Good, Missing, Bad}
use Rattle.read_head.specs.declared.GotLabel.{GotLabel}
use Rattle.read_head.specs.Word.{Word, absent, other, word, word_found, word_in, word_at}
use Rattle.read_head.specs.Values.{worst, got_label}
use Rattle.read_lists.specs.declared.Asking.{Asking}
use Rattle.read_lists.specs.declared.Asking.TheVariants.{Plain, Full, Older}
use Rattle.read_lists.specs.declared.Flag.{Flag}
use Rattle.read_lists.specs.declared.Flag.TheVariants.{Absent, Other, Is}
use Rattle.read_lists.specs.declared.GotNumber.{GotNumber}
use Rattle.read_lists.specs.declared.StatusEntry.{StatusEntry}
use Rattle.read_lists.specs.declared.GotEntry.{GotEntry}
use Rattle.read_lists.specs.declared.StatusStep.{StatusStep}
use Rattle.read_lists.specs.declared.StatusList.{StatusList}
use Rattle.read_lists.specs.declared.StatusFields.{StatusFields}
use Rattle.read_lists.specs.Items.{Item, Items, flag_found, item_at, list_in, list_at}
use Rattle.read_lists.specs.Gather.{gathered}
use Rattle.read_lists.specs.Version.{no_number, numbered}

-- uRt: decimal text, seconds 0 to 86400 without leading zeros
abbrev pub got_seconds : Word → GotNumber
got_seconds absent = no_number Missing
got_seconds other = no_number Bad
got_seconds (word d) = numbered (number_in 86400 d)

-- of an entry's meaning
abbrev pub seconds_in : Json → GotNumber
seconds_in j = got_seconds (word_in j (text "uRt"))

-- sOc: a boolean; 0 with false is a Bad value
abbrev pub changed : ℕ → Flag → Verdict
changed n Absent = Missing
changed n Other = Bad
changed n (Is true) = Good
changed n (Is false) = pick (eqb n 0) Bad Good

abbrev pub is_set : Flag → Bool
is_set Absent = false
is_set Other = false
is_set (Is b) = b

abbrev pub entry_of : GotLabel → GotLabel → GotNumber → Flag → GotEntry
entry_of c n u o =
    record {
      verdict = worst (worst c.verdict n.verdict) (worst u.verdict (changed u.number o));
      entry = record { code = c.label; name = n.label; seconds = u.number; onchange = is_set o };
    }

abbrev pub no_entry : StatusEntry
no_entry = record { code = no_label; name = no_label; seconds = 0; onchange = false }

-- without uRt and sOc: as if they said 0 and true
abbrev pub plain_entry : (List ℕ → Word) → GotEntry
plain_entry f = entry_of (got_label (f (text "sCI"))) (got_label (f (text "n"))) (record { verdict = Good; number = 0 }) (Is true)

abbrev pub full_entry : (List ℕ → Word) → (List ℕ → Flag) → GotEntry
full_entry f g = entry_of (got_label (f (text "sCI"))) (got_label (f (text "n"))) (got_seconds (f (text "uRt"))) (g (text "sOc"))

-- request 07: "a subscription has no sOc; uRt 0 means send on change and any other number means by interval only"
abbrev pub older_entry : (List ℕ → Word) → GotEntry
older_entry f =
    let u = got_seconds (f (text "uRt")) in
    entry_of (got_label (f (text "sCI"))) (got_label (f (text "n"))) u (Is (eqb u.number 0))

abbrev pub entry_by : Asking → (List ℕ → Word) → (List ℕ → Flag) → GotEntry
entry_by Plain f g = plain_entry f
entry_by Full f g = full_entry f g
entry_by Older f g = older_entry f

abbrev pub entry_of_item : Asking → Item → GotEntry
entry_of_item asking x = pick x.object (entry_by asking x.words x.flags) (record { verdict = Bad; entry = no_entry })

-- an entry of the elements that were found in s of sCI, n, uRt and sOc
abbrev pub plain_found : List ℕ → FourFound → GotEntry
plain_found s f = entry_of (got_label (word_found s f.first)) (got_label (word_found s f.second)) (record { verdict = Good; number = 0 }) (Is true)

abbrev pub full_found : List ℕ → FourFound → GotEntry
full_found s f =
    entry_of (got_label (word_found s f.first)) (got_label (word_found s f.second)) (got_seconds (word_found s f.third)) (flag_found s f.fourth)

abbrev pub older_found : List ℕ → FourFound → GotEntry
older_found s f =
    let u = got_seconds (word_found s f.third) in
    entry_of (got_label (word_found s f.first)) (got_label (word_found s f.second)) u (Is (eqb u.number 0))

abbrev pub found_by : Asking → List ℕ → FourFound → GotEntry
found_by Plain s f = plain_found s f
found_by Full s f = full_found s f
found_by Older s f = older_found s f

-- the entry at a place, and the place of the next
pub record Steps (s : List ℕ) (at : ℕ) (asking : Asking) (r : StatusStep) : Type 0 where
  pub here : r.got ≡ entry_of_item asking (item_at (skip_ws (drop at s)))
  pub on : Ends s at (next_entry 0x5d (drop at s)) r.next

abbrev pub no_statuses : Verdict → StatusList
no_statuses v = record { verdict = v; count = 0; entries = replicate 16 no_entry }

unfoldable pub push_entry : StatusList → GotEntry → StatusList
push_entry l g =
    pick (ltb l.count 16)
    (record { verdict = worst l.verdict g.verdict; count = l.count + 1; entries = set l.entries l.count g.entry })
    (record { verdict = worst (worst l.verdict g.verdict) Bad; count = l.count; entries = l.entries })

abbrev pub statuses_of : Asking → Items → StatusList
statuses_of asking i =
    gathered (λ l x. push_entry l (entry_of_item asking x)) (no_statuses Good) (no_statuses Missing) (no_statuses Bad) i

abbrev pub status_from : GotLabel → StatusList → StatusFields
status_from c l = record { verdict = worst c.verdict l.verdict; component = c.label; count = l.count; entries = l.entries }

abbrev pub status_by : Asking → (List ℕ → Word) → (List ℕ → Items) → StatusFields
status_by asking f g = status_from (got_label (f (text "cId"))) (statuses_of asking (g (text "sS")))

-- of a packet's meaning
unfoldable pub status_in : Asking → Json → StatusFields
status_in asking j = status_by asking (word_in j) (list_in j)

-- of any text, as the code looks the elements up
unfoldable pub status_at : Asking → List ℕ → StatusFields
status_at asking s = status_by asking (word_at (skip_ws s)) (list_at (skip_ws s))
