-- The time of a Watchdog is the one that the machine reads: whatever has the form of a time can be used.
-- Assumes nothing.
use Rattle.basis.proofs.Std.{ℕ, zero, suc, ◌+◌, ◌/◌, ◌%◌, ◌≤◌, ◌<◌, arith, ◌≡◌, refl, sym, ap, ◌∙◌, Bool, true, [], ◌∷◌, ◌++◌, leb, length, length-append, lt-ltb, leb-true, pick, text, untrue, both_true}
use Rattle.calendar.specs.declared.Time.{Time}
use Rattle.calendar.specs.declared.Time.TheVariants.{Is, No}
use Rattle.calendar.specs.Civil.{date_of}
use Rattle.calendar.specs.Text.{decimals, second_text}
use Rattle.calendar.specs.Read.{is_digit, are_digits, pointed, Form, Reads, is as a_time, no as no_time, read_time}
use Rattle.calendar.proofs.Said.{second_length}
use Rattle.calendar.proofs.Reading.{answers}
use Rattle.json_text.specs.Copied.{ascii}
use Rattle.json_value.specs.Grammar.{Json}
use Rattle.read_head.specs.declared.Verdict.TheVariants.{Good, Bad}
use Rattle.read_head.specs.Word.{Word, absent, other, word, word_in}
use Rattle.read_head.specs.Values.{verdict_of, timed, got_time}
use Rattle.read_head.specs.Small.{watchdog_in}
use Rattle.machine.specs.Words.{Bytes, is_some}
use Rattle.machine.specs.Json.{string_of, is_type, said, time_in}
use Rattle.machine.specs.Answers.{a_string, ◌is◌, one, needs}
use Rattle.refine_read.specs.Verdicts.{judged}
use Rattle.refine_read.specs.Fields.{WatchdogReads}
use Rattle.refine_read.proofs.Words.{usable, Sure, need_judged, need_good}
use Rattle.refine_read.proofs.Usable.{ascii_append, usable_of}
use Rattle.refine_read.proofs.Types.{type_is}
use Rattle.refine_read.proofs.Fields.{last_judged}

-- a text of ASCII, piece by piece
data Plain (d : Bytes) : Type 0 where
  plain : ascii d ≡ true → Plain d

joined : {d e : Bytes} → Plain d → Plain e → Plain (d ++ e)
joined {d} {e} (plain p) (plain q) = plain (ascii_append d e p q)

dash : Plain (text "-")
unfolding ascii
dash = plain refl

colon : Plain (text ":")
unfolding ascii
colon = plain refl

tee : Plain (text "T")
unfolding ascii
tee = plain refl

zed : Plain (text "Z")
unfolding ascii
zed = plain refl

nothing : Plain []
unfolding ascii
nothing = plain refl

single : (b : ℕ) → b < 128 → Plain (b ∷ [])
unfolding ascii
single b h = plain (rw (lt-ltb b 128 h))

row : (w n : ℕ) → Plain (decimals w n)
row zero n = nothing
row (suc w) n = joined (row w (n / 10)) (single (48 + n % 10) (omega arith))

second_plain : (n : ℕ) → Plain (second_text n)
unfolding second_text
second_plain n =
    let d = date_of (n / 86400) in
    let s = n % 86400 in
    joined (joined (joined (joined (joined (joined (row 4 d.year) dash) (row 2 d.month)) dash) (row 2 d.day)) tee)
    (joined (joined (joined (joined (row 2 (s / 3600)) colon) (row 2 (s / 60 % 60))) colon) (row 2 (s % 60)))

digits_ascii : (ds : Bytes) → are_digits ds ≡ true → ascii ds ≡ true
unfolding ascii
digits_ascii [] e = refl
digits_ascii (b ∷ ds) e =
    let p = both_true (is_digit b) (are_digits ds) e in
    let q = both_true (leb 48 b) (leb b 57) p.0 in
    rw (lt-ltb b 128 (omega (arith, leb-true b 57 q.1))) (digits_ascii ds p.1)

pointed_plain : (ds : Bytes) → are_digits ds ≡ true → Plain (pointed ds)
unfolding ascii
pointed_plain [] e = nothing
pointed_plain (d ∷ ds) e = plain (digits_ascii (d ∷ ds) e)

pointed_short : (ds : Bytes) → length ds ≤ 6 → length (pointed ds) ≤ 7
pointed_short [] h = omega arith
pointed_short (d ∷ ds) h = omega arith

form_usable : {s : Bytes} {n : ℕ} {ds : Bytes} → Form s n ds → usable s ≡ true
form_usable {s} {n} {ds} f = rw f.said (by (joined (second_plain n) (joined (pointed_plain ds f.digits) zed)))
  where
    by : Plain (second_text n ++ (pointed ds ++ text "Z")) → usable (second_text n ++ (pointed ds ++ text "Z")) ≡ true
    by (plain e) =
        usable_of (second_text n ++ (pointed ds ++ text "Z"))
        (omega (arith, length-append (second_text n) (pointed ds ++ text "Z"), length-append (pointed ds) (text "Z"), second_length n, pointed_short ds f.most))
        e

abbrev is_time : Bytes → Bool
is_time s = is_some (time_in s)

time_sure : Sure is_time
time_sure s e = by (answers s) e
  where
    by : {r : Time} → Reads s r → is_some (said r) ≡ true → usable s ≡ true
    by (a_time n ds f) e = form_usable f
    by (no_time f) e = untrue e

time_verdict : (w : Word) → (got_time w).verdict ≡ verdict_of is_time w
time_verdict absent = refl
time_verdict other = refl
time_verdict (word d) = by (read_time d)
  where
    by : (r : Time) → (timed r).verdict ≡ pick (is_some (said r)) Good Bad
    by (Is t k) = refl
    by No = refl

time_said : (r : Time) → is_some (said r) ≡ true → r ≡ Is (timed r).time (timed r).decimals
time_said (Is t k) e = refl
time_said No e = untrue e

watchdog_needs : (older : Bool) (j : Json) → is_type "Watchdog" j ≡ true → needs older j ≡ one ("wTs" is a_string is_time) ∷ []
unfolding needs
watchdog_needs older j e = rw (type_is j "Watchdog" e)

pub watchdog_reads : (j : Json) → WatchdogReads j (watchdog_in j)
unfolding watchdog_in
watchdog_reads j =
    record {
      verdict = λ older e.
          time_verdict (word_in j (text "wTs")) ∙ need_judged is_time time_sure j "wTs"
          ∙ sym (last_judged j (one ("wTs" is a_string is_time))) ∙ ap (judged j) (sym (watchdog_needs older j e));
      time = λ g.
          let p = need_good is_time j "wTs" (sym (time_verdict (word_in j (text "wTs"))) ∙ g) in
          time_said (read_time (string_of "wTs" j)) p.1 ∙ ap (λ (w : Word). Is (got_time w).time (got_time w).decimals) (sym p.0);
    }
