-- The elements that the code looks up are the machine's, and a verdict on a string is the machine's wherever what passes can be used.
-- Assumes nothing.
use Rattle.basis.proofs.Std.{ℕ, String, arith, ◌≡◌, refl, sym, ap, ap₂, subst, ◌∙◌, Bool, true, false, not, List, [], ◌∷◌, Option, some, none, leb, length, pick, both, same_bytes, text, bool_cases, same_true}
use Rattle.json_text.specs.Copied.{ascii}
use Rattle.json_value.specs.Grammar.{Json, Members}
use Rattle.json_value.specs.Grammar.Json.{null, bool, num, str, arr, obj}
use Rattle.json_value.specs.Grammar.Members.{mnil, mcons}
use Rattle.json_find.specs.Lookup as Lookup
use Rattle.json_find.specs.Lookup.{Found, member}
use Rattle.json_find.specs.Lookup.Found.{found, missing}
use Rattle.read_head.specs.declared.Verdict.{Verdict}
use Rattle.read_head.specs.declared.Verdict.TheVariants.{Good, Missing, Bad}
use Rattle.read_head.specs.Word.{Word, absent, other, word, said, said_of, word_in}
use Rattle.read_head.specs.Values.{worst, verdict_of}
use Rattle.machine.specs.Words.{Bytes, ◌or◌, maybe, is_some, or_else, any}
use Rattle.machine.specs.Json.{named, shape, element, string_at, string_of}
use Rattle.machine.specs.Answers.{a_string, ◌is◌, Need, one, fits, is_missing, is_bad}
use Rattle.refine_read.specs.Verdicts.{verdict, judged}

-- what holds of a text, and of all that are none of it, holds of all
pub at_text : (P : Bytes → Type 0) (d t : Bytes) → P t → (same_bytes d t ≡ false → P d) → P d
at_text P d t p q = bool_cases (same_bytes d t) (λ e. subst P (sym (same_true d t e)) p) q

-- an element as the code finds it
abbrev pub found_of : Option Json → Found
found_of none = missing
found_of (some j) = found j

named_found : (name : Bytes) (ms : Members) → Lookup.named name ms ≡ found_of (named name ms)
named_found name mnil = refl
named_found name (mcons d j ms) = by (same_bytes d name) (named_found name ms)
  where
    by : (b : Bool) → Lookup.named name ms ≡ found_of (named name ms) → pick b (found j) (Lookup.named name ms) ≡ found_of (pick b (some j) (named name ms))
    by true e = refl
    by false e = e

pub element_found : (j : Json) (name : String) → member (text name) j ≡ found_of (element name j)
element_found null name = refl
element_found (bool b) name = refl
element_found (num d) name = refl
element_found (str d) name = refl
element_found (arr js) name = refl
element_found (obj ms) name = named_found (text name) ms

-- and as a word
abbrev pub word_of : Option Json → Word
word_of none = absent
word_of (some j) = said j

said_of_lem : (o : Option Json) → said_of (found_of o) ≡ word_of o
said_of_lem none = refl
said_of_lem (some j) = refl

pub word_in_lem : (j : Json) (name : String) → word_in j (text name) ≡ word_of (element name j)
unfolding word_in
word_in_lem j name = ap said_of (element_found j name) ∙ said_of_lem (element name j)

abbrev pub usable : Bytes → Bool
usable d = both (leb (length d) 36) (ascii d)

-- a test of strings passes none that cannot be used
abbrev pub Sure : (Bytes → Bool) → Type 0
Sure good = (d : Bytes) → good d ≡ true → usable d ≡ true

abbrev is_string : (Bytes → Bool) → Json → Bool
is_string good v = fits (a_string good) v

abbrev judged_one : (Bytes → Bool) → Option Json → Verdict
judged_one good o = verdict (not (is_some o)) (maybe false (λ v. not (is_string good v)) o)

one_judged : (good : Bytes → Bool) → Sure good → (o : Option Json) → verdict_of good (word_of o) ≡ judged_one good o
one_judged good sure none = refl
one_judged good sure (some null) = refl
one_judged good sure (some (bool b)) = refl
one_judged good sure (some (num d)) = refl
one_judged good sure (some (arr js)) = refl
one_judged good sure (some (obj ms)) = refl
one_judged good sure (some (str d)) = bool_cases (good d)
    (λ t. rw (sure d t, t))
    (λ f. rw f (by (usable d) f))
  where
    by : (u : Bool) → good d ≡ false → verdict_of good (pick u (word d) other) ≡ Bad
    by true f = rw f
    by false f = refl

-- what is good is there, and is the string that the machine takes
pub good_word : (good : Bytes → Bool) (o : Option Json) → verdict_of good (word_of o) ≡ Good
    → (word_of o ≡ word (or_else [] (maybe none (λ v. (shape v).string) o))) × (good (or_else [] (maybe none (λ v. (shape v).string) o)) ≡ true)
good_word good none e = absurd (let z : ◌≡◌ {A = ℕ} 0 1 = cc in omega arith)
good_word good (some null) e = absurd (let z : ◌≡◌ {A = ℕ} 0 1 = cc in omega arith)
good_word good (some (bool b)) e = absurd (let z : ◌≡◌ {A = ℕ} 0 1 = cc in omega arith)
good_word good (some (num d)) e = absurd (let z : ◌≡◌ {A = ℕ} 0 1 = cc in omega arith)
good_word good (some (arr js)) e = absurd (let z : ◌≡◌ {A = ℕ} 0 1 = cc in omega arith)
good_word good (some (obj ms)) e = absurd (let z : ◌≡◌ {A = ℕ} 0 1 = cc in omega arith)
good_word good (some (str d)) e = by (usable d) (good d) e refl
  where
    by : (u g : Bool) → verdict_of good (pick u (word d) other) ≡ Good → good d ≡ g → (pick u (word d) other ≡ word d) × (good d ≡ true)
    by false g e f = absurd (let z : ◌≡◌ {A = ℕ} 0 1 = cc in omega arith)
    by true true e f = (refl, f)
    by true false e f = let k : Bad ≡ Good = rw f at e in absurd (let z : ◌≡◌ {A = ℕ} 0 1 = cc in omega arith)

pub good_string : (good : Bytes → Bool) (o : Option Json) → verdict_of good (word_of o) ≡ Good
    → maybe none (λ v. (shape v).string) o ≡ some (or_else [] (maybe none (λ v. (shape v).string) o))
good_string good none e = absurd (let z : ◌≡◌ {A = ℕ} 0 1 = cc in omega arith)
good_string good (some null) e = absurd (let z : ◌≡◌ {A = ℕ} 0 1 = cc in omega arith)
good_string good (some (bool b)) e = absurd (let z : ◌≡◌ {A = ℕ} 0 1 = cc in omega arith)
good_string good (some (num d)) e = absurd (let z : ◌≡◌ {A = ℕ} 0 1 = cc in omega arith)
good_string good (some (arr js)) e = absurd (let z : ◌≡◌ {A = ℕ} 0 1 = cc in omega arith)
good_string good (some (obj ms)) e = absurd (let z : ◌≡◌ {A = ℕ} 0 1 = cc in omega arith)
good_string good (some (str d)) e = refl

-- verdicts one after the other
pub worst_of : (a b c d : Bool) → worst (verdict a b) (verdict c d) ≡ verdict (a or c) (b or d)
worst_of true b c d = refl
worst_of false true true d = refl
worst_of false true false true = refl
worst_of false true false false = refl
worst_of false false c d = refl

pub worst_good : (v : Verdict) → worst v Good ≡ v
worst_good Good = refl
worst_good Missing = refl
worst_good Bad = refl

pub judged_more : (j : Json) (n : Need) (ns : List Need) → judged j (n ∷ ns) ≡ worst (verdict (is_missing j n) (is_bad j n)) (judged j ns)
judged_more j n ns = sym (worst_of (is_missing j n) (is_bad j n) (any (is_missing j) ns) (any (is_bad j) ns))

pub both_good : (v w : Verdict) → worst v w ≡ Good → (v ≡ Good) × (w ≡ Good)
both_good Good w e = (refl, e)
both_good Missing w e = absurd (let z : ◌≡◌ {A = ℕ} 0 1 = cc in omega arith)
both_good Bad Good e = absurd (let z : ◌≡◌ {A = ℕ} 0 1 = cc in omega arith)
both_good Bad Missing e = absurd (let z : ◌≡◌ {A = ℕ} 0 1 = cc in omega arith)
both_good Bad Bad e = absurd (let z : ◌≡◌ {A = ℕ} 0 1 = cc in omega arith)

-- an element that is a string
pub element_judged : (good : Bytes → Bool) → Sure good → (j : Json) (name : String)
    → verdict_of good (word_in j (text name)) ≡ verdict (not (is_some (element name j))) (maybe false (λ v. not (fits (a_string good) v)) (element name j))
element_judged good sure j name = ap (verdict_of good) (word_in_lem j name) ∙ one_judged good sure (element name j)

pub or_false : (b : Bool) → (b or false) ≡ b
or_false true = refl
or_false false = refl

-- the element of a need that is one string
pub need_judged : (good : Bytes → Bool) → Sure good → (j : Json) (name : String)
    → verdict_of good (word_in j (text name)) ≡ verdict (is_missing j (one (name is a_string good))) (is_bad j (one (name is a_string good)))
need_judged good sure j name =
    element_judged good sure j name
    ∙ sym (ap₂ verdict (or_false (not (is_some (element name j)))) (or_false (maybe false (λ v. not (fits (a_string good) v)) (element name j))))

pub need_good : (good : Bytes → Bool) (j : Json) (name : String) → verdict_of good (word_in j (text name)) ≡ Good
    → (word_in j (text name) ≡ word (string_of name j)) × (good (string_of name j) ≡ true)
need_good good j name e =
    let g = good_word good (element name j) (ap (verdict_of good) (sym (word_in_lem j name)) ∙ e) in
    (word_in_lem j name ∙ g.0, g.1)

pub need_string : (good : Bytes → Bool) (j : Json) (name : String) → verdict_of good (word_in j (text name)) ≡ Good → string_at name j ≡ some (string_of name j)
need_string good j name e = good_string good (element name j) (ap (verdict_of good) (sym (word_in_lem j name)) ∙ e)
