-- The fields of Alarm and AggregatedStatusRequest are those that the machine reads.
-- Assumes nothing.
use Rattle.basis.proofs.Std.{String, ◌≡◌, refl, sym, ap, ap₂, ◌∙◌, Bool, true, false, List, [], ◌∷◌, some, take-append_seam, pick, text, bool_cases, untrue}
use Rattle.number.specs.Alphabet.{is_label}
use Rattle.label.specs.Label.{label_of, text_of}
use Rattle.json_text.specs.Copied.{ascii}
use Rattle.json_value.specs.Grammar.{Json}
use Rattle.read_head.specs.declared.Verdict.TheVariants.{Good, Bad}
use Rattle.read_head.specs.declared.Order.TheVariants.{Request, Acknowledge, Suspend, Resume}
use Rattle.read_head.specs.Word.{Word, absent, other, word, word_in}
use Rattle.read_head.specs.Values.{worst, verdict_of, got_label, an_order, order_for, got_order}
use Rattle.read_head.specs.Small.{alarm_in, aggregated_in}
use Rattle.machine.specs.Words.{Bytes, reads}
use Rattle.machine.specs.Json.{string_at, string_of, is_type}
use Rattle.machine.specs.Answers.{a_string, ◌is◌, Need, one, is_word, label, needs, is_missing, is_bad}
use Rattle.refine_read.specs.Verdicts.{verdict, judged}
use Rattle.refine_read.specs.Fields.{order_word, AlarmReads, AggregatedReads}
use Rattle.refine_read.proofs.Words.{at_text, usable, Sure, worst_good, judged_more, both_good, need_judged, need_good, need_string}
use Rattle.refine_read.proofs.Usable.{label_sure}
use Rattle.refine_read.proofs.Types.{type_is}

pub kept_text : (s : Bytes) → text_of (label_of s) ≡ s
kept_text s = take-append_seam s _

-- ---- a used string
pub label_verdict : (w : Word) → (got_label w).verdict ≡ verdict_of is_label w
label_verdict absent = refl
label_verdict other = refl
label_verdict (word d) = bool_cases (is_label d) (λ t. rw t) (λ f. rw f)

pub label_judged : (j : Json) (name : String) → (got_label (word_in j (text name))).verdict ≡ verdict (is_missing j (one (name is label))) (is_bad j (one (name is label)))
label_judged j name = label_verdict (word_in j (text name)) ∙ need_judged is_label label_sure j name

pub label_kept : (j : Json) (name : String) → (got_label (word_in j (text name))).verdict ≡ Good → (got_label (word_in j (text name))).label ≡ label_of (string_of name j)
label_kept j name e =
    let g = need_good is_label j name (sym (label_verdict (word_in j (text name))) ∙ e) in
    ap (λ (w : Word). (got_label w).label) g.0 ∙ rw g.1

-- ---- an order
abbrev orders : List String
orders = "Request" ∷ "Acknowledge" ∷ "Suspend" ∷ "Resume" ∷ []

order_verdict : (w : Word) → (got_order w).verdict ≡ verdict_of (is_word orders) w
order_verdict absent = refl
order_verdict other = refl
order_verdict (word d) = by (reads "Request" d) (reads "Acknowledge" d) (reads "Suspend" d) (reads "Resume" d)
  where
    by : (a b c e : Bool) → (pick a (an_order Good Request) (pick b (an_order Good Acknowledge) (pick c (an_order Good Suspend) (pick e (an_order Good Resume) (an_order Bad Request))))).verdict
        ≡ pick (pick a true (pick b true (pick c true (pick e true false)))) Good Bad
    by true b c e = refl
    by false true c e = refl
    by false false true e = refl
    by false false false true = refl
    by false false false false = refl

by_order : (P : Bytes → Type 0) → P (text "Request") → P (text "Acknowledge") → P (text "Suspend") → P (text "Resume") → (d : Bytes) → is_word orders d ≡ true → P d
by_order P p q r s d e =
    at_text P d (text "Request") p (λ a.
    at_text P d (text "Acknowledge") q (λ b.
    at_text P d (text "Suspend") r (λ c.
    at_text P d (text "Resume") s (λ f.
    untrue (rw (a, b, c, f) at e)))))

order_sure : Sure (is_word orders)
unfolding ascii
order_sure d e = by_order (λ d. usable d ≡ true) refl refl refl refl d e

order_word_lem : (d : Bytes) → is_word orders d ≡ true → d ≡ text (order_word (order_for d).order)
order_word_lem d e = by_order (λ d. d ≡ text (order_word (order_for d).order)) refl refl refl refl d e

order_judged : (j : Json) → (got_order (word_in j (text "aSp"))).verdict ≡ verdict (is_missing j (one ("aSp" is a_string (is_word orders)))) (is_bad j (one ("aSp" is a_string (is_word orders))))
order_judged j = order_verdict (word_in j (text "aSp")) ∙ need_judged (is_word orders) order_sure j "aSp"

order_said : (j : Json) → (got_order (word_in j (text "aSp"))).verdict ≡ Good → string_at "aSp" j ≡ some (text (order_word (got_order (word_in j (text "aSp"))).order))
order_said j e =
    let v = sym (order_verdict (word_in j (text "aSp"))) ∙ e in
    let g = need_good (is_word orders) j "aSp" v in
    need_string (is_word orders) j "aSp" v ∙ ap some (order_word_lem (string_of "aSp" j) g.1 ∙ ap (λ (w : Word). text (order_word (got_order w).order)) (sym g.0))

-- ---- the messages
pub last_judged : (j : Json) (n : Need) → judged j (n ∷ []) ≡ verdict (is_missing j n) (is_bad j n)
last_judged j n = judged_more j n [] ∙ worst_good (verdict (is_missing j n) (is_bad j n))

alarm_needs : (older : Bool) (j : Json) → is_type "Alarm" j ≡ true → needs older j ≡ one ("cId" is label) ∷ one ("aCId" is label) ∷ one ("aSp" is a_string (is_word orders)) ∷ []
unfolding needs
alarm_needs older j e = rw (type_is j "Alarm" e)

aggregated_needs : (older : Bool) (j : Json) → is_type "AggregatedStatusRequest" j ≡ true → needs older j ≡ one ("cId" is label) ∷ []
unfolding needs
aggregated_needs older j e = rw (type_is j "AggregatedStatusRequest" e)

module _ (j : Json) where
  parts : (alarm_in j).verdict ≡ Good → ((got_label (word_in j (text "cId"))).verdict ≡ Good) × ((got_label (word_in j (text "aCId"))).verdict ≡ Good) × ((got_order (word_in j (text "aSp"))).verdict ≡ Good)
  unfolding alarm_in
  parts g =
      let p = both_good (got_label (word_in j (text "cId"))).verdict (worst (got_label (word_in j (text "aCId"))).verdict (got_order (word_in j (text "aSp"))).verdict) g in
      let q = both_good (got_label (word_in j (text "aCId"))).verdict (got_order (word_in j (text "aSp"))).verdict p.1 in
      (p.0, q.0, q.1)

  pub alarm_reads : AlarmReads j (alarm_in j)
  unfolding alarm_in
  alarm_reads =
      record {
        verdict = λ older e.
            ap₂ worst (label_judged j "cId") (ap₂ worst (label_judged j "aCId") (order_judged j ∙ sym (last_judged j (one ("aSp" is a_string (is_word orders)))))
            ∙ sym (judged_more j (one ("aCId" is label)) (one ("aSp" is a_string (is_word orders)) ∷ [])))
            ∙ sym (judged_more j (one ("cId" is label)) (one ("aCId" is label) ∷ one ("aSp" is a_string (is_word orders)) ∷ []))
            ∙ ap (judged j) (sym (alarm_needs older j e));
        component = λ g. label_kept j "cId" (parts g).0;
        code = λ g. label_kept j "aCId" (parts g).1;
        order = λ g. order_said j (parts g).2;
      }

  pub aggregated_reads : AggregatedReads j (aggregated_in j)
  unfolding aggregated_in
  aggregated_reads =
      record {
        verdict = λ older e. label_judged j "cId" ∙ sym (last_judged j (one ("cId" is label))) ∙ ap (judged j) (sym (aggregated_needs older j e));
        component = λ g. label_kept j "cId" g;
      }
