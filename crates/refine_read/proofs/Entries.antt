-- An entry of sS: its verdict and what it asks for.
-- Assumes nothing.
use Rattle.basis.proofs.Std.{ℕ, ◌≤◌, ◌<◌, String, arith, ◌≡◌, refl, sym, ap, ap₂, ◌∙◌, Bool, true, false, not, List, [], ◌∷◌, Option, some, none, leb, eqb, length, leb-true, eqb-true, eqb-false, eq-eqb, ne_eqb, pick, both, same_bytes, text, bool_cases, untrue, both_false, same_true}
use Rattle.number.specs.declared.Number.{Number}
use Rattle.number.specs.declared.Number.TheVariants.{Is, No}
use Rattle.number.specs.Decimal.{digits}
use Rattle.number.specs.Reading.{says}
use Rattle.number.specs.Alphabet.{is_label}
use Rattle.number.proofs.Alphabet.{digits_in}
use Rattle.number.proofs.Digits.{digits_length}
use Rattle.json_text.specs.Copied.{ascii}
use Rattle.json_value.specs.Grammar.{Json}
use Rattle.json_value.specs.Grammar.Json.{null, bool, num, str, arr, obj}
use Rattle.json_packet.specs.Packet as Packet
use Rattle.read_versions.specs.Numeral as Numeral
use Rattle.read_head.specs.declared.Verdict.{Verdict}
use Rattle.read_head.specs.declared.Verdict.TheVariants.{Good, Missing, Bad}
use Rattle.read_head.specs.Word.{Word, absent, other, word, word_in}
use Rattle.read_head.specs.Values.{worst, verdict_of, got_label}
use Rattle.read_lists.specs.declared.Flag.{Flag}
use Rattle.read_lists.specs.declared.GotEntry.{GotEntry}
use Rattle.read_lists.specs.Items.{item_in, flag_of, flag_in}
use Rattle.read_lists.specs.Version.{numbered}
use Rattle.read_lists.specs.Status.{got_seconds, seconds_in, changed, is_set, no_entry, plain_entry, full_entry, older_entry, entry_by, entry_of_item}
use Rattle.machine.specs.Words.{Bytes, ◌and◌, ◌or◌, maybe, is_some, or_else, is_number}
use Rattle.machine.specs.Json.{shape, element, string_of, boolean_of, number_in}
use Rattle.machine.specs.Answers.{a_string, a_boolean, Element, ◌is◌, label, asked, subscribed, interval, asks_never, any_entry, is_object, lacks, fits, spoils}
use Rattle.refine_read.specs.Verdicts.{verdict}
use Rattle.refine_read.proofs.Words.{found_of, element_found, usable, Sure, worst_of, worst_good, both_good, or_false, element_judged, need_good}
use Rattle.refine_read.proofs.Usable.{alphabet_ascii, usable_of, label_sure}
use Rattle.refine_read.proofs.Fields.{label_verdict, label_kept}
use Rattle.refine_read.specs.Statuses.{asking_for, entry_of}
use Rattle.refine_read.proofs.Gathered.{worst_assoc, or_parts}

pub object_is : (x : Json) → Packet.is_object x ≡ is_object x
object_is null = refl
object_is (bool b) = refl
object_is (num d) = refl
object_is (str d) = refl
object_is (arr js) = refl
object_is (obj ms) = refl

-- ---- the elements of an entry, one after the other
abbrev pub element_verdict : Json → Element → Verdict
element_verdict x e = verdict (not (is_some (element e.name x))) (maybe false (λ v. not (fits e.kind v)) (element e.name x))

abbrev pub elements_verdict : Json → List Element → Verdict
elements_verdict x es = verdict (lacks x es) (spoils x es)

pub elements_more : (x : Json) (e : Element) (es : List Element) → elements_verdict x (e ∷ es) ≡ worst (element_verdict x e) (elements_verdict x es)
elements_more x e es =
    sym (worst_of (not (is_some (element e.name x))) (maybe false (λ v. not (fits e.kind v)) (element e.name x)) (lacks x es) (spoils x es))

pub label_element : (x : Json) (name : String) → (got_label (word_in x (text name))).verdict ≡ element_verdict x (name is label)
label_element x name = label_verdict (word_in x (text name)) ∙ element_judged is_label label_sure x name

-- ---- an entry as the machine judges it
abbrev pub is_missing : List Element → Json → Bool
is_missing es x = is_object x and lacks x es

abbrev pub is_bad : List Element → (Json → Bool) → Json → Bool
is_bad es good x = not (is_object x) or spoils x es or not (good x)

pub entry_judged : (es : List Element) (good : Json → Bool) (x : Json) (v : Verdict) → v ≡ worst (elements_verdict x es) (verdict false (not (good x)))
    → pick (is_object x) v Bad ≡ verdict (is_missing es x) (is_bad es good x)
entry_judged es good x v e = by (is_object x)
  where
    by : (b : Bool) → pick b v Bad ≡ verdict (both b (lacks x es)) (not b or spoils x es or not (good x))
    by true = e ∙ worst_of (lacks x es) (spoils x es) false (not (good x)) ∙ ap (λ (m : Bool). verdict m (spoils x es or not (good x))) (or_false (lacks x es))
    by false = refl

pub good_object : (es : List Element) (good : Json → Bool) (x : Json) → is_bad es good x ≡ false → is_object x ≡ true
good_object es good x e = by (is_object x) (or_parts (not (is_object x)) (spoils x es or not (good x)) e).0
  where
    by : (b : Bool) → not b ≡ false → b ≡ true
    by true e = refl
    by false e = untrue (sym e)

-- ---- uRt
abbrev pub is_seconds : Bytes → Bool
is_seconds s = is_some (number_in 86400 s)

pub number_short : (limit : ℕ) (d : Bytes) → limit < 10000000000 → is_some (number_in limit d) ≡ true → (length d ≤ 10) × (ascii d ≡ true)
number_short limit d h e = by (leb (says 0 d) limit) (same_bytes d (digits (says 0 d))) refl refl e
  where
    by : (a b : Bool) → leb (says 0 d) limit ≡ a → same_bytes d (digits (says 0 d)) ≡ b → is_some (pick (both a b) (some (says 0 d)) none) ≡ true → (length d ≤ 10) × (ascii d ≡ true)
    by true true p q e =
        let l : says 0 d ≤ limit = leb-true (says 0 d) limit p in
        let w : d ≡ digits (says 0 d) = same_true d (digits (says 0 d)) q in
        let n : length (digits (says 0 d)) ≤ 10 = digits_length 9 (says 0 d) (omega arith) in
        (omega (arith, ap length w, n), alphabet_ascii d (rw w (digits_in (says 0 d))))
    by true false p q e = untrue e
    by false b p q e = untrue e

pub number_usable : (limit : ℕ) (d : Bytes) → limit < 10000000000 → is_some (number_in limit d) ≡ true → usable d ≡ true
number_usable limit d h e = let p = number_short limit d h e in usable_of d (omega (arith, p.0)) p.1

seconds_sure : Sure is_seconds
seconds_sure d e = number_usable 86400 d (omega arith) e

-- the number that a text says, to the code and to the machine
abbrev pub said_number : Option ℕ → Number
said_number none = No
said_number (some n) = Is n

pub number_is : (limit : ℕ) (d : Bytes) → Numeral.number_in limit d ≡ said_number (number_in limit d)
unfolding Numeral.number_in
number_is limit d = by (both (leb (says 0 d) limit) (same_bytes d (digits (says 0 d))))
  where
    by : (b : Bool) → pick b (Is (says 0 d)) No ≡ said_number (pick b (some (says 0 d)) none)
    by true = refl
    by false = refl

seconds_verdict : (w : Word) → (got_seconds w).verdict ≡ verdict_of is_seconds w
seconds_verdict absent = refl
seconds_verdict other = refl
seconds_verdict (word d) = ap (λ (r : Number). (numbered r).verdict) (number_is 86400 d) ∙ by (number_in 86400 d)
  where
    by : (o : Option ℕ) → (numbered (said_number o)).verdict ≡ pick (is_some o) Good Bad
    by none = refl
    by (some n) = refl

abbrev the_seconds : Element
the_seconds = "uRt" is a_string is_seconds

seconds_element : (x : Json) → (seconds_in x).verdict ≡ element_verdict x the_seconds
seconds_element x = seconds_verdict (word_in x (text "uRt")) ∙ element_judged is_seconds seconds_sure x "uRt"

some_of : (o : Option ℕ) → is_some o ≡ true → o ≡ some (numbered (said_number o)).number
some_of none e = untrue e
some_of (some n) e = refl

seconds_said : (x : Json) → (seconds_in x).verdict ≡ Good → interval x ≡ some (seconds_in x).number
seconds_said x g =
    let p = need_good is_seconds x "uRt" (sym (seconds_verdict (word_in x (text "uRt"))) ∙ g) in
    some_of (interval x) p.1
    ∙ ap (λ (r : Number). some (numbered r).number) (sym (number_is 86400 (string_of "uRt" x)))
    ∙ ap (λ (w : Word). some (got_seconds w).number) (sym p.0)

-- ---- sOc
abbrev flag_verdict : Option Json → Verdict
flag_verdict o = verdict (not (is_some o)) (maybe false (λ v. not (is_some (shape v).boolean)) o)

abbrev is_on : Option Json → Bool
is_on o = or_else false (maybe none (λ v. (shape v).boolean) o)

flag_set : (o : Option Json) → is_set (flag_of (found_of o)) ≡ is_on o
flag_set none = refl
flag_set (some null) = refl
flag_set (some (bool b)) = refl
flag_set (some (num d)) = refl
flag_set (some (str d)) = refl
flag_set (some (arr js)) = refl
flag_set (some (obj ms)) = refl

bad_anyway : (b : Bool) → Bad ≡ worst Bad (verdict false b)
bad_anyway true = refl
bad_anyway false = refl

zero_swap : (n : ℕ) → eqb n 0 ≡ eqb 0 n
zero_swap n = bool_cases (eqb n 0) (λ t. t ∙ sym (eq-eqb 0 n (sym (eqb-true n 0 t)))) (λ f. f ∙ sym (ne_eqb 0 n (λ z. eqb-false n 0 f (sym z))))

-- uRt and sOc together: "0 with false is "Bad value""
never : (v : Verdict) (n : ℕ) (i : Option ℕ) → (v ≡ Good → i ≡ some n) → worst v (pick (eqb n 0) Bad Good) ≡ worst v (verdict false (both (is_number 0 i) true))
never Missing n i h = refl
never Bad n i h = by (eqb n 0) (both (is_number 0 i) true)
  where
    by : (a b : Bool) → worst Bad (pick a Bad Good) ≡ worst Bad (verdict false b)
    by true true = refl
    by true false = refl
    by false true = refl
    by false false = refl
never Good n i h = rw (h refl, zero_swap n) (by (eqb 0 n))
  where
    by : (b : Bool) → pick b Bad Good ≡ verdict false (both b true)
    by true = refl
    by false = refl

change_judged : (v : Verdict) (n : ℕ) (i : Option ℕ) (o : Option Json) → (v ≡ Good → i ≡ some n)
    → worst v (changed n (flag_of (found_of o))) ≡ worst v (worst (flag_verdict o) (verdict false (both (is_number 0 i) (not (is_on o)))))
change_judged v n i none h = refl
change_judged v n i (some null) h = ap (worst v) (bad_anyway (both (is_number 0 i) true))
change_judged v n i (some (num d)) h = ap (worst v) (bad_anyway (both (is_number 0 i) true))
change_judged v n i (some (str d)) h = ap (worst v) (bad_anyway (both (is_number 0 i) true))
change_judged v n i (some (arr js)) h = ap (worst v) (bad_anyway (both (is_number 0 i) true))
change_judged v n i (some (obj ms)) h = ap (worst v) (bad_anyway (both (is_number 0 i) true))
change_judged v n i (some (bool true)) h = ap (λ (b : Bool). worst v (verdict false b)) (sym (both_false (is_number 0 i)))
change_judged v n i (some (bool false)) h = never v n i h

not_not : (b : Bool) → not (not b) ≡ b
not_not true = refl
not_not false = refl

-- ---- an entry
module _ (x : Json) where
  flag_in_lem : flag_in x (text "sOc") ≡ flag_of (found_of (element "sOc" x))
  unfolding flag_in
  flag_in_lem = ap flag_of (element_found x "sOc")

  abbrev code_of : Verdict
  code_of = (got_label (word_in x (text "sCI"))).verdict

  abbrev name_of : Verdict
  name_of = (got_label (word_in x (text "n"))).verdict

  plain_judged : (plain_entry (word_in x)).verdict ≡ worst (elements_verdict x asked) (verdict false (not (any_entry x)))
  plain_judged =
      ap (λ (v : Verdict). worst v Good)
      (ap₂ worst (label_element x "sCI") (label_element x "n" ∙ sym (elements_more x ("n" is label) [] ∙ worst_good (element_verdict x ("n" is label))))
      ∙ sym (elements_more x ("sCI" is label) ("n" is label ∷ [])))

  abbrev change : Verdict
  change = changed (seconds_in x).number (flag_in x (text "sOc"))

  full_judged : (full_entry (word_in x) (flag_in x)).verdict ≡ worst (elements_verdict x (subscribed false)) (verdict false (not (not (asks_never false x))))
  full_judged =
      let a = verdict false (asks_never false x) in
      let s = flag_verdict (element "sOc" x) in
      let u = (seconds_in x).verdict in
      let e : elements_verdict x (subscribed false) ≡ worst code_of (worst name_of (worst u s)) =
      elements_more x ("sCI" is label) ("n" is label ∷ the_seconds ∷ "sOc" is a_boolean ∷ [])
      ∙ ap₂ worst (sym (label_element x "sCI")) (elements_more x ("n" is label) (the_seconds ∷ "sOc" is a_boolean ∷ [])
      ∙ ap₂ worst (sym (label_element x "n")) (elements_more x the_seconds ("sOc" is a_boolean ∷ [])
      ∙ ap₂ worst (sym (seconds_element x)) (elements_more x ("sOc" is a_boolean) [] ∙ worst_good s)))
      in
      let c : worst u change ≡ worst u (worst s a) = ap (λ (f : Flag). worst u (changed (seconds_in x).number f)) flag_in_lem ∙ change_judged u (seconds_in x).number (interval x) (element "sOc" x) (seconds_said x) in
      ap (worst (worst code_of name_of)) c
      ∙ worst_assoc code_of name_of (worst u (worst s a))
      ∙ sym (ap₂ (λ (v : Verdict) (b : Bool). worst v (verdict false b)) e (not_not (asks_never false x))
      ∙ worst_assoc code_of (worst name_of (worst u s)) a
      ∙ ap (worst code_of) (worst_assoc name_of (worst u s) a ∙ ap (worst name_of) (worst_assoc u s a)))

  -- in the edition before nobody asks never: 0 is at each change
  abbrev older_change : Verdict
  older_change = changed (seconds_in x).number (Flag.Is (eqb (seconds_in x).number 0))

  older_changes : older_change ≡ Good
  older_changes = by (eqb (seconds_in x).number 0) refl
    where
      by : (b : Bool) → eqb (seconds_in x).number 0 ≡ b → changed (seconds_in x).number (Flag.Is b) ≡ Good
      by true e = refl
      by false e = rw e

  older_never : asks_never true x ≡ false
  older_never = by (is_number 0 (interval x))
    where
      by : (b : Bool) → both b (not b) ≡ false
      by true = refl
      by false = refl

  older_judged : (older_entry (word_in x)).verdict ≡ worst (elements_verdict x (subscribed true)) (verdict false (not (not (asks_never true x))))
  older_judged =
      let u = (seconds_in x).verdict in
      let e : elements_verdict x (subscribed true) ≡ worst code_of (worst name_of u) =
      elements_more x ("sCI" is label) ("n" is label ∷ the_seconds ∷ [])
      ∙ ap₂ worst (sym (label_element x "sCI")) (elements_more x ("n" is label) (the_seconds ∷ [])
      ∙ ap₂ worst (sym (label_element x "n")) (elements_more x the_seconds [] ∙ ap₂ worst (sym (seconds_element x)) refl ∙ worst_good u))
      in
      ap (λ (v : Verdict). worst (worst code_of name_of) (worst u v)) older_changes
      ∙ ap (worst (worst code_of name_of)) (worst_good u)
      ∙ worst_assoc code_of name_of u
      ∙ sym (ap₂ (λ (v : Verdict) (b : Bool). worst v (verdict false (not (not b)))) e older_never ∙ worst_good (worst code_of (worst name_of u)))

abbrev pub elements_of : Bool → Bool → List Element
elements_of true older = subscribed older
elements_of false older = asked

abbrev pub passes : Bool → Bool → Json → Bool
passes true older x = not (asks_never older x)
passes false older x = true

-- an entry of an object
abbrev entry_in : Bool → Bool → Json → GotEntry
entry_in subscribing older x = entry_by (asking_for subscribing older) (word_in x) (flag_in x)

module _ (subscribing older : Bool) where
  of_item : (x : Json) → (entry_of_item (asking_for subscribing older) (item_in x)).verdict ≡ pick (is_object x) (entry_in subscribing older x).verdict Bad
  of_item x = rw (object_is x) (by (is_object x))
    where
      by : (b : Bool) → (pick b (entry_in subscribing older x) (record { verdict = Bad; entry = no_entry })).verdict ≡ pick b (entry_in subscribing older x).verdict Bad
      by true = refl
      by false = refl

in_judged : (subscribing older : Bool) (x : Json)
    → (entry_in subscribing older x).verdict ≡ worst (elements_verdict x (elements_of subscribing older)) (verdict false (not (passes subscribing older x)))
in_judged true false x = full_judged x
in_judged true true x = older_judged x
in_judged false older x = plain_judged x

pub item_judged : (subscribing older : Bool) (x : Json)
    → (entry_of_item (asking_for subscribing older) (item_in x)).verdict
    ≡ verdict (is_missing (elements_of subscribing older) x) (is_bad (elements_of subscribing older) (passes subscribing older) x)
item_judged subscribing older x =
    of_item subscribing older x
    ∙ entry_judged (elements_of subscribing older) (passes subscribing older) x (entry_in subscribing older x).verdict (in_judged subscribing older x)

-- what a good entry asks for
module _ (x : Json) (changing : Verdict) (g : worst (worst (code_of x) (name_of x)) (worst (seconds_in x).verdict changing) ≡ Good) where
  abbrev good_labels : (code_of x ≡ Good) × (name_of x ≡ Good)
  good_labels = both_good (code_of x) (name_of x) (both_good (worst (code_of x) (name_of x)) (worst (seconds_in x).verdict changing) g).0

  said_interval : interval x ≡ some (seconds_in x).number
  said_interval =
      seconds_said x (both_good (seconds_in x).verdict changing (both_good (worst (code_of x) (name_of x)) (worst (seconds_in x).verdict changing) g).1).0

in_asks : (subscribing older : Bool) (x : Json) → (entry_in subscribing older x).verdict ≡ Good → (entry_in subscribing older x).entry ≡ entry_of subscribing older x
in_asks true false x g =
    let q = good_labels x (change x) g in
    let c = label_kept x "sCI" q.0 in
    let n = label_kept x "n" q.1 in
    let s : (seconds_in x).number ≡ or_else 0 (interval x) = sym (ap (or_else 0) (said_interval x (change x) g)) in
    let o : is_set (flag_in x (text "sOc")) ≡ boolean_of "sOc" x = ap is_set (flag_in_lem x) ∙ flag_set (element "sOc" x) in
    λ i. record { code = c i; name = n i; seconds = s i; onchange = o i }
in_asks true true x g =
    let q = good_labels x (older_change x) g in
    let c = label_kept x "sCI" q.0 in
    let n = label_kept x "n" q.1 in
    let i₀ = said_interval x (older_change x) g in
    let s : (seconds_in x).number ≡ or_else 0 (interval x) = sym (ap (or_else 0) i₀) in
    let o : eqb (seconds_in x).number 0 ≡ is_number 0 (interval x) = zero_swap (seconds_in x).number ∙ sym (ap (is_number 0) i₀) in
    λ i. record { code = c i; name = n i; seconds = s i; onchange = o i }
in_asks false older x g =
    let p = both_good (worst (code_of x) (name_of x)) Good g in
    let q = both_good (code_of x) (name_of x) p.0 in
    let c = label_kept x "sCI" q.0 in
    let n = label_kept x "n" q.1 in
    λ i. record { code = c i; name = n i; seconds = 0; onchange = true }

pub item_asks : (subscribing older : Bool) (x : Json) → is_missing (elements_of subscribing older) x ≡ false
    → is_bad (elements_of subscribing older) (passes subscribing older) x ≡ false
    → (entry_of_item (asking_for subscribing older) (item_in x)).entry ≡ entry_of subscribing older x
item_asks subscribing older x m b =
    let t : is_object x ≡ true = good_object (elements_of subscribing older) (passes subscribing older) x b in
    let g : (entry_in subscribing older x).verdict ≡ Good =
    sym (rw t at (of_item subscribing older x)) ∙ item_judged subscribing older x ∙ ap₂ verdict m b
    in
    rw (object_is x, t) (in_asks subscribing older x g)
