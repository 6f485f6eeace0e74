-- The claims about the status types are kept.
-- Assumes nothing.
use Rattle.basis.proofs.Std.{ℕ, arith, ◌≡◌, refl, sym, ap, ap₂, ◌∙◌, Bool, true, false, List, [], ◌∷◌, some, ltb, text, bool_cases}
use Rattle.json_value.specs.Grammar.{Json}
use Rattle.json_value.specs.Grammar.Json.{null}
use Rattle.read_head.specs.declared.Verdict.{Verdict}
use Rattle.read_head.specs.declared.Verdict.TheVariants.{Good, Missing, Bad}
use Rattle.read_head.specs.Word.{word_in}
use Rattle.read_head.specs.Values.{worst, got_label}
use Rattle.read_lists.specs.declared.StatusEntry.{StatusEntry}
use Rattle.read_lists.specs.declared.StatusList.{StatusList}
use Rattle.read_lists.specs.Items.{Item, item_in, list_of, list_in}
use Rattle.read_lists.specs.Status.{no_entry, entry_of_item, no_statuses, push_entry, statuses_of, status_in}
use Rattle.read_lists.proofs.Kept as Lists
use Rattle.machine.specs.Json as Machine
use Rattle.machine.specs.Json.{element, string_at, is_type, asks_for}
use Rattle.machine.specs.Answers as Answers
use Rattle.machine.specs.Answers.{Need, one, ◌is◌, label, needs}
use Rattle.refine_read.specs.Verdicts.{verdict, judged}
use Rattle.refine_read.proofs.Words.{found_of, element_found, judged_more, both_good}
use Rattle.refine_read.specs.Head.{type_name}
use Rattle.refine_read.proofs.Types.{type_is, asked_as}
use Rattle.refine_read.proofs.Fields.{label_judged, label_kept, last_judged}
use Rattle.refine_read.proofs.Kept.{only}
use Rattle.refine_read.specs.Statuses.{asking_for, is_read, entry_of, StatusReads, Claims}
use Rattle.refine_read.proofs.Indexed.{taken_at}
use Rattle.refine_read.proofs.Gathered.{Pushes, Holds, entries_of, list_judged, list_holds}
use Rattle.refine_read.proofs.Entries.{is_missing, is_bad, elements_of, passes, item_judged, item_asks}

module _ (subscribing older : Bool) where
  abbrev said : StatusList → Verdict
  said l = l.verdict

  abbrev one_said : Json → Verdict
  one_said x = (entry_of_item (asking_for subscribing older) (item_in x)).verdict

  abbrev value : Json → StatusEntry
  value x = (entry_of_item (asking_for subscribing older) (item_in x)).entry

  abbrev push : StatusList → Item → StatusList
  push l x = push_entry l (entry_of_item (asking_for subscribing older) x)

  abbrev count : StatusList → ℕ
  count l = l.count

  abbrev list : StatusList → List StatusEntry
  list l = l.entries

  pushes : (l : StatusList) (x : Json) → Pushes said count list one_said value l (push l (item_in x)) x
  unfolding push_entry
  pushes l x = bool_cases (ltb l.count 16)
      (λ t. record { judged = rw t; counted = rw t; holds = rw t })
      (λ f. record { judged = rw f; counted = rw f; holds = rw f })

  abbrev the_entries : Need
  the_entries = Answers.entries "sS" (elements_of subscribing older) (passes subscribing older)

  module _ (j : Json) where
    list_in_lem : list_in j (text "sS") ≡ list_of (found_of (element "sS" j))
    unfolding list_in
    list_in_lem = ap list_of (element_found j "sS")

    entries_judged : (statuses_of (asking_for subscribing older) (list_in j (text "sS"))).verdict ≡ verdict (Answers.is_missing j the_entries) (Answers.is_bad j the_entries)
    entries_judged =
        ap (λ i. (statuses_of (asking_for subscribing older) i).verdict) list_in_lem
        ∙ list_judged said count list one_said value push pushes (is_missing (elements_of subscribing older)) (is_bad (elements_of subscribing older) (passes subscribing older)) (item_judged subscribing older)
        (no_statuses Good) (no_statuses Missing) (no_statuses Bad) refl refl refl refl (element "sS" j)

    entries_held : (statuses_of (asking_for subscribing older) (list_in j (text "sS"))).verdict ≡ Good → Holds (statuses_of (asking_for subscribing older) (list_in j (text "sS"))) count list (entry_of subscribing older) (entries_of (element "sS" j))
    entries_held g =
        rw list_in_lem
        (list_holds said count list one_said value push pushes (is_missing (elements_of subscribing older)) (is_bad (elements_of subscribing older) (passes subscribing older)) (item_judged subscribing older)
        (no_statuses Good) (no_statuses Missing) (no_statuses Bad) refl refl refl refl (entry_of subscribing older) (item_asks subscribing older) refl (element "sS" j) (rw list_in_lem at g))

subscribe_needs : (older : Bool) (j : Json) → is_type "StatusSubscribe" j ≡ true → needs older j ≡ one ("cId" is label) ∷ the_entries true older ∷ []
unfolding needs
subscribe_needs older j e = rw (type_is j "StatusSubscribe" e)

request_needs : (older : Bool) (j : Json) (included : Bool) → string_at "type" j ≡ some (type_name "StatusRequest" included)
    → needs older j ≡ one ("cId" is label) ∷ the_entries false older ∷ []
unfolding needs
request_needs older j false e = rw e
request_needs older j true e = rw e

unsubscribe_needs : (older : Bool) (j : Json) → is_type "StatusUnsubscribe" j ≡ true → needs older j ≡ one ("cId" is label) ∷ the_entries false older ∷ []
unfolding needs
unsubscribe_needs older j e = rw (type_is j "StatusUnsubscribe" e)

status_needs : (subscribing older : Bool) (j : Json) → is_read subscribing j ≡ true → needs older j ≡ one ("cId" is label) ∷ the_entries subscribing older ∷ []
status_needs true older j e = subscribe_needs older j e
status_needs false older j e =
    bool_cases (asks_for "StatusRequest" j) (λ t. asked_as j "StatusRequest" t (request_needs older j)) (λ f. unsubscribe_needs older j (rw f at e))

module _ (subscribing older : Bool) (j : Json) where
  abbrev the_list : StatusList
  the_list = statuses_of (asking_for subscribing older) (list_in j (text "sS"))

  parts : (status_in (asking_for subscribing older) j).verdict ≡ Good → ((got_label (word_in j (text "cId"))).verdict ≡ Good) × (the_list.verdict ≡ Good)
  unfolding status_in
  parts g = both_good (got_label (word_in j (text "cId"))).verdict the_list.verdict g

  status_reads : StatusReads subscribing older j (status_in (asking_for subscribing older) j)
  unfolding status_in
  status_reads =
      record {
        verdict = λ e.
            ap₂ worst (label_judged j "cId") (entries_judged subscribing older j ∙ sym (last_judged j (the_entries subscribing older)))
            ∙ sym (judged_more j (one ("cId" is label)) (the_entries subscribing older ∷ []))
            ∙ ap (judged j) (sym (status_needs subscribing older j e));
        component = λ g. label_kept j "cId" (parts g).0;
        entries = λ g. (entries_held subscribing older j (parts g).1).all;
        at = λ g.
            let h = entries_held subscribing older j (parts g).1 in
            taken_at (entry_of subscribing older) null no_entry the_list.count the_list.entries (Machine.entries_of "sS" j) h.all h.counted;
        count = λ g. (entries_held subscribing older j (parts g).1).counted;
        most = λ g. let h = entries_held subscribing older j (parts g).1 in omega (arith, h.counted, h.most);
      }

pub kept : Claims
kept = record { statuses = λ subscribing older s j e. rw ((Lists.kept).status (asking_for subscribing older) (only e)) (status_reads subscribing older j) }
