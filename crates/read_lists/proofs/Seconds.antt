-- uRt is good exactly where it is the decimal text of a number of seconds up to 86400.
-- Assumes nothing.
use Rattle.basis.proofs.Std.{◌≡◌, refl, sym, ap, ◌∙◌, true, List, [], ◌∷◌, ◌++◌, ℕ, ◌+◌, ◌/◌, ◌%◌, ◌≤◌, ◌<◌, arith, ltb, leb, eqb, length, lt-ltb, le-leb, both, text, bool_cases, untrue}
use Rattle.number.specs.declared.Number.{Number}
use Rattle.number.specs.declared.Number.TheVariants.{Is, No}
use Rattle.number.specs.Decimal.{digits}
use Rattle.number.specs.Reading.{is}
use Rattle.number.proofs.Digits.{by_digits, one_digit, more_digits, digits_once, digits_length}
use Rattle.json_text.specs.Copied.{ascii}
use Rattle.json_value.specs.Grammar.{Json}
use Rattle.json_value.specs.Grammar.Json.{null, bool, num, str, arr, obj}
use Rattle.json_find.specs.Lookup.{Found, member}
use Rattle.json_find.specs.Lookup.Found.{found, missing}
use Rattle.json_packet.specs.Packet.{is_object}
use Rattle.read_versions.specs.Numeral.{number_in}
use Rattle.read_versions.proofs.Numerals.{numeral_once, number_most}
use Rattle.read_head.specs.declared.Verdict.{Verdict}
use Rattle.read_head.specs.declared.Verdict.TheVariants.{Good, Missing, Bad}
use Rattle.read_head.specs.Word.{Word, absent, other, word, word_for, said, said_of, word_in}
use Rattle.read_head.specs.Values.{worst, got_label}
use Rattle.read_lists.specs.declared.Asking.TheVariants.{Full, Older}
use Rattle.read_lists.specs.declared.Flag.{Flag}
use Rattle.read_lists.specs.Items.{item_in, flag_in}
use Rattle.read_lists.specs.Version.{numbered}
use Rattle.read_lists.specs.Status.{got_seconds, seconds_in, changed, entry_of_item}
use Rattle.read_lists.specs.Claims.{Seconds}
use Rattle.read_lists.proofs.Worst.{not_missing, not_bad, both_good}

-- decimal text is ASCII
ascii_snoc : (d : List ℕ) (c : ℕ) → ascii d ≡ true → c < 128 → ascii (d ++ (c ∷ [])) ≡ true
unfolding ascii
ascii_snoc [] c e h = rw (lt-ltb c 128 h)
ascii_snoc (b ∷ d) c e h = bool_cases (ltb b 128) (λ t. rw t (ascii_snoc d c (rw t at e) h)) (λ f. untrue (rw f at e))

ascii_none : ascii [] ≡ true
unfolding ascii
ascii_none = refl

digits_ascii : (n : ℕ) → ascii (digits n) ≡ true
digits_ascii = by_digits (λ (n : ℕ). ascii (digits n) ≡ true)
    (λ n l. ap ascii (one_digit n l) ∙ ascii_snoc [] (48 + n) ascii_none (omega arith))
    (λ n l e. ap ascii (more_digits n l) ∙ ascii_snoc (digits (n / 10)) (48 + n % 10) e (omega arith))

word_of_lem : (n : ℕ) → n ≤ 86400 → word_for (digits n) ≡ word (digits n)
word_of_lem n h = rw (le-leb (length (digits n)) 36 (omega (arith, digits_length 4 n (omega arith))), digits_ascii n)

-- what reading a text of decimal digits gives
within : (n : ℕ) → n ≤ 86400 → number_in 86400 (digits n) ≡ Is n
within n h = sym (numeral_once 86400 (digits n) (Is n) (is n h refl))

-- a good number's element
found_word : (f : Found) (d : List ℕ) → said_of f ≡ word d → f ≡ found (str d)
found_word missing d e = absurd (let z : ◌≡◌ {A = ℕ} 0 1 = cc in omega arith)
found_word (found null) d e = absurd (let z : ◌≡◌ {A = ℕ} 0 1 = cc in omega arith)
found_word (found (bool b)) d e = absurd (let z : ◌≡◌ {A = ℕ} 0 1 = cc in omega arith)
found_word (found (num x)) d e = absurd (let z : ◌≡◌ {A = ℕ} 0 1 = cc in omega arith)
found_word (found (arr js)) d e = absurd (let z : ◌≡◌ {A = ℕ} 0 1 = cc in omega arith)
found_word (found (obj ms)) d e = absurd (let z : ◌≡◌ {A = ℕ} 0 1 = cc in omega arith)
found_word (found (str x)) d e = bool_cases (both (leb (length x) 36) (ascii x))
    (λ t. let k : word x ≡ word d = rw t at e in cc)
    (λ f. let k : other ≡ word d = rw f at e in absurd (let z : ◌≡◌ {A = ℕ} 0 1 = cc in omega arith))

said_missing : (f : Found) → said_of f ≡ absent → f ≡ missing
said_missing missing e = refl
said_missing (found null) e = absurd (let z : ◌≡◌ {A = ℕ} 0 1 = cc in omega arith)
said_missing (found (bool b)) e = absurd (let z : ◌≡◌ {A = ℕ} 0 1 = cc in omega arith)
said_missing (found (num x)) e = absurd (let z : ◌≡◌ {A = ℕ} 0 1 = cc in omega arith)
said_missing (found (arr js)) e = absurd (let z : ◌≡◌ {A = ℕ} 0 1 = cc in omega arith)
said_missing (found (obj ms)) e = absurd (let z : ◌≡◌ {A = ℕ} 0 1 = cc in omega arith)
said_missing (found (str x)) e = bool_cases (both (leb (length x) 36) (ascii x))
    (λ t. let k : word x ≡ absent = rw t at e in absurd (let z : ◌≡◌ {A = ℕ} 0 1 = cc in omega arith))
    (λ f. let k : other ≡ absent = rw f at e in absurd (let z : ◌≡◌ {A = ℕ} 0 1 = cc in omega arith))

record Good-word (w : Word) : Type 0 where
  text_of : w ≡ word (digits (got_seconds w).number)
  most : (got_seconds w).number ≤ 86400

good_number : (d : List ℕ) (r : Number) → number_in 86400 d ≡ r → (numbered r).verdict ≡ Good → ((numbered r).number ≤ 86400) × (d ≡ digits (numbered r).number)
good_number d (Is n) e g = number_most 86400 d n e
good_number d No e g = absurd (not_bad g)

good_word : (w : Word) → (got_seconds w).verdict ≡ Good → Good-word w
good_word absent g = absurd (not_missing g)
good_word other g = absurd (not_bad g)
good_word (word d) g = let p = good_number d (number_in 86400 d) refl g in record { text_of = ap word p.1; most = p.0 }

missing_word : (w : Word) → (got_seconds w).verdict ≡ Missing → w ≡ absent
missing_word absent g = refl
missing_word other g = absurd (let z : ◌≡◌ {A = ℕ} 0 1 = cc in omega arith)
missing_word (word d) g = absurd (by (number_in 86400 d) g)
  where
    by : (r : Number) → (numbered r).verdict ≡ Missing → ⊥
    by (Is n) e = let z : ◌≡◌ {A = ℕ} 0 1 = cc in omega arith
    by No e = let z : ◌≡◌ {A = ℕ} 0 1 = cc in omega arith

module _ (entry : Json) where
  pub seconds : (n : ℕ) → Seconds entry n → seconds_in entry ≡ record { verdict = Good; number = n }
  unfolding word_in
  seconds n s = rw (s.said, word_of_lem n s.most, within n s.most)

  pub only_seconds : (seconds_in entry).verdict ≡ Good → Seconds entry (seconds_in entry).number
  unfolding word_in
  only_seconds g =
      let w = good_word (said_of (member (text "uRt") entry)) g in
      record { said = found_word (member (text "uRt") entry) _ w.text_of; most = w.most }

  pub no_seconds : member (text "uRt") entry ≡ missing → (seconds_in entry).verdict ≡ Missing
  unfolding word_in
  no_seconds e = rw e

  pub only_missing : (seconds_in entry).verdict ≡ Missing → member (text "uRt") entry ≡ missing
  unfolding word_in
  only_missing g = said_missing (member (text "uRt") entry) (missing_word (said_of (member (text "uRt") entry)) g)

  pub too_long : (n : ℕ) → member (text "uRt") entry ≡ found (str (digits n)) → 86400 < n → (seconds_in entry).verdict ≡ Bad
  too_long n e h = by (seconds_in entry).verdict refl
    where
      by : (v : Verdict) → (seconds_in entry).verdict ≡ v → (seconds_in entry).verdict ≡ Bad
      by Bad g = g
      by Missing g = absurd (let m = only_missing g in let z : ◌≡◌ {A = ℕ} 0 1 = cc in omega arith)
      by Good g = absurd (let s = only_seconds g in omega (arith, digits_once n (seconds_in entry).number (let m = s.said in cc), s.most))

  -- of an entry that is an object and good, uRt is good whatever is said of changes
  good_seconds : (flag : Flag) → worst (worst (got_label (word_in entry (text "sCI"))).verdict (got_label (word_in entry (text "n"))).verdict) (worst (seconds_in entry).verdict (changed (seconds_in entry).number flag)) ≡ Good → Seconds entry (seconds_in entry).number
  good_seconds flag g =
      let labels = worst (got_label (word_in entry (text "sCI"))).verdict (got_label (word_in entry (text "n"))).verdict in
      let change = changed (seconds_in entry).number flag in
      only_seconds (both_good (seconds_in entry).verdict change (both_good labels (worst (seconds_in entry).verdict change) g).1).0

  pub subscribed : (entry_of_item Full (item_in entry)).verdict ≡ Good → Seconds entry (entry_of_item Full (item_in entry)).entry.seconds
  subscribed g = bool_cases (is_object entry) (λ t. rw t (good_seconds (flag_in entry (text "sOc")) (rw t at g))) (λ f. absurd (not_bad (rw f at g)))

  pub older : (entry_of_item Older (item_in entry)).verdict ≡ Good → Seconds entry (entry_of_item Older (item_in entry)).entry.seconds
  older g = bool_cases (is_object entry) (λ t. rw t (good_seconds (Flag.Is (eqb (seconds_in entry).number 0)) (rw t at g))) (λ f. absurd (not_bad (rw f at g)))
