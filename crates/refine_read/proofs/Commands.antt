-- An entry of arg: its verdict and what it asks for.
-- Assumes nothing.
use Rattle.basis.proofs.Std.{ℕ, zero, suc, ◌≤◌, arith, ◌≡◌, refl, sym, ap, ap₂, ◌∙◌, Bool, true, false, not, [], ◌∷◌, Option, some, none, eqb, ℤ, pos, length, eqb-true, pick, text, bool_cases, untrue}
use Rattle.number.specs.declared.Int.{Int}
use Rattle.number.specs.declared.Int.TheVariants.{Is, No}
use Rattle.json_text.specs.Copied.{ascii}
use Rattle.json_value.specs.Grammar.{Json}
use Rattle.read_versions.specs.Numeral as Numeral
use Rattle.read_versions.specs.Numeral.{negated, plain, int_in}
use Rattle.read_head.specs.declared.Verdict.{Verdict}
use Rattle.read_head.specs.declared.Verdict.TheVariants.{Good, Bad}
use Rattle.read_head.specs.Word.{Word, absent, other, word, word_in}
use Rattle.read_head.specs.Values.{worst, verdict_of, got_label}
use Rattle.read_lists.specs.Items.{item_in}
use Rattle.read_commands.specs.Command.{valued, got_value, no_command, command_by, command_of_item}
use Rattle.machine.specs.Words.{Bytes, maybe, is_some, or_else}
use Rattle.machine.specs.Json.{string_of, number_in, below, integer_in}
use Rattle.machine.specs.Answers.{a_string, Element, ◌is◌, label, commanded, value_asked, any_entry, is_object}
use Rattle.refine_read.specs.Verdicts.{verdict}
use Rattle.refine_read.specs.Commands.{command_of}
use Rattle.refine_read.proofs.Words.{usable, Sure, worst_good, both_good, element_judged, need_good}
use Rattle.refine_read.proofs.Usable.{usable_of}
use Rattle.refine_read.proofs.Fields.{label_kept}
use Rattle.refine_read.proofs.Gathered.{worst_assoc}
use Rattle.refine_read.proofs.Entries.{object_is, element_verdict, elements_verdict, elements_more, label_element, is_missing, is_bad, entry_judged, good_object, number_short, number_usable, said_number, number_is}

-- ---- v
abbrev is_integer : Bytes → Bool
is_integer s = is_some (integer_in s)

-- behind a minus stand at most ten digits
minus_usable : (s : Bytes) → (length s ≤ 10) × (ascii s ≡ true) → usable (45 ∷ s) ≡ true
unfolding ascii
minus_usable s p = usable_of (45 ∷ s) (omega (arith, p.0)) p.1

some_below : (o : Option ℕ) → is_some (below o) ≡ true → is_some o ≡ true
some_below none e = e
some_below (some n) e = refl

some_plain : (o : Option ℕ) → is_some (maybe none (λ n. some (pos n)) o) ≡ true → is_some o ≡ true
some_plain none e = e
some_plain (some n) e = refl

integer_sure : Sure is_integer
integer_sure [] e = untrue e
integer_sure (b ∷ s) e = bool_cases (eqb b 45)
    (λ t. rw (eqb-true b 45 t) (minus_usable s (number_short 2147483648 s (omega arith) (some_below (number_in 2147483648 s) (rw t at e)))))
    (λ f. number_usable 2147483647 (b ∷ s) (omega arith) (some_plain (number_in 2147483647 (b ∷ s)) (rw f at e)))

-- the value that a text says, to the code and to the machine
abbrev pub said_integer : Option ℤ → Int
said_integer none = No
said_integer (some v) = Is v

negated_is : (o : Option ℕ) → negated (said_number o) ≡ said_integer (below o)
negated_is none = refl
negated_is (some zero) = refl
negated_is (some (suc n)) = refl

plain_is : (o : Option ℕ) → plain (said_number o) ≡ said_integer (maybe none (λ n. some (pos n)) o)
plain_is none = refl
plain_is (some n) = refl

pub integer_is : (d : Bytes) → int_in d ≡ said_integer (integer_in d)
unfolding int_in
integer_is [] = refl
integer_is (b ∷ s) = by (eqb b 45)
  where
    by : (q : Bool) → pick q (negated (Numeral.number_in 2147483648 s)) (plain (Numeral.number_in 2147483647 (b ∷ s)))
        ≡ said_integer (pick q (below (number_in 2147483648 s)) (maybe none (λ n. some (pos n)) (number_in 2147483647 (b ∷ s))))
    by true = ap negated (number_is 2147483648 s) ∙ negated_is (number_in 2147483648 s)
    by false = ap plain (number_is 2147483647 (b ∷ s)) ∙ plain_is (number_in 2147483647 (b ∷ s))

value_verdict : (w : Word) → (got_value w).verdict ≡ verdict_of is_integer w
value_verdict absent = refl
value_verdict other = refl
value_verdict (word d) = ap (λ (r : Int). (valued r).verdict) (integer_is d) ∙ by (integer_in d)
  where
    by : (o : Option ℤ) → (valued (said_integer o)).verdict ≡ pick (is_some o) Good Bad
    by none = refl
    by (some v) = refl

abbrev the_value : Element
the_value = "v" is a_string is_integer

value_element : (x : Json) → (got_value (word_in x (text "v"))).verdict ≡ element_verdict x the_value
value_element x = value_verdict (word_in x (text "v")) ∙ element_judged is_integer integer_sure x "v"

value_said : (x : Json) → (got_value (word_in x (text "v"))).verdict ≡ Good → (got_value (word_in x (text "v"))).value ≡ value_asked x
value_said x g =
    let p = need_good is_integer x "v" (sym (value_verdict (word_in x (text "v"))) ∙ g) in
    ap (λ (w : Word). (got_value w).value) p.0
    ∙ ap (λ (r : Int). (valued r).value) (integer_is (string_of "v" x))
    ∙ by (integer_in (string_of "v" x))
  where
    by : (o : Option ℤ) → (valued (said_integer o)).value ≡ or_else (pos 0) o
    by none = refl
    by (some v) = refl

-- ---- an entry
module _ (x : Json) where
  abbrev code_of : Verdict
  code_of = (got_label (word_in x (text "cCI"))).verdict

  abbrev name_of : Verdict
  name_of = (got_label (word_in x (text "n"))).verdict

  abbrev order_of : Verdict
  order_of = (got_label (word_in x (text "cO"))).verdict

  abbrev value_of : Verdict
  value_of = (got_value (word_in x (text "v"))).verdict

  in_judged : (command_by (word_in x)).verdict ≡ worst (elements_verdict x commanded) (verdict false (not (any_entry x)))
  in_judged =
      let e : elements_verdict x commanded ≡ worst code_of (worst name_of (worst order_of value_of)) =
      elements_more x ("cCI" is label) ("n" is label ∷ "cO" is label ∷ the_value ∷ [])
      ∙ ap₂ worst (sym (label_element x "cCI")) (elements_more x ("n" is label) ("cO" is label ∷ the_value ∷ [])
      ∙ ap₂ worst (sym (label_element x "n")) (elements_more x ("cO" is label) (the_value ∷ [])
      ∙ ap₂ worst (sym (label_element x "cO")) (elements_more x the_value [] ∙ worst_good (element_verdict x the_value) ∙ sym (value_element x))))
      in
      worst_assoc code_of name_of (worst order_of value_of) ∙ sym e ∙ sym (worst_good (elements_verdict x commanded))

  of_item : (command_of_item (item_in x)).verdict ≡ pick (is_object x) (command_by (word_in x)).verdict Bad
  of_item = rw (object_is x) (by (is_object x))
    where
      by : (b : Bool) → (pick b (command_by (word_in x)) (record { verdict = Bad; entry = no_command })).verdict ≡ pick b (command_by (word_in x)).verdict Bad
      by true = refl
      by false = refl

  pub item_judged : (command_of_item (item_in x)).verdict ≡ verdict (is_missing commanded x) (is_bad commanded any_entry x)
  item_judged = of_item ∙ entry_judged commanded any_entry x (command_by (word_in x)).verdict in_judged

  -- what a good entry asks for
  in_asks : (command_by (word_in x)).verdict ≡ Good → (command_by (word_in x)).entry ≡ command_of x
  in_asks g =
      let p = both_good (worst code_of name_of) (worst order_of value_of) g in
      let q = both_good code_of name_of p.0 in
      let r = both_good order_of value_of p.1 in
      let c = label_kept x "cCI" q.0 in
      let n = label_kept x "n" q.1 in
      let v = value_said x r.1 in
      λ i. record { code = c i; name = n i; value = v i }

  pub item_asks : is_missing commanded x ≡ false → is_bad commanded any_entry x ≡ false → (command_of_item (item_in x)).entry ≡ command_of x
  item_asks m b =
      let t : is_object x ≡ true = good_object commanded any_entry x b in
      let g : (command_by (word_in x)).verdict ≡ Good = sym (rw t at of_item) ∙ item_judged ∙ ap₂ verdict m b in
      rw (object_is x, t) (in_asks g)
