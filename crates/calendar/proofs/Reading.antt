-- Reading a time: the function gives the answer, there is one answer only, and what was written is read back.
-- Assumes nothing.
use Rattle.basis.proofs.Std.{◌≡◌, refl, sym, ap, ap₂, subst, ◌∙◌, List, ◌++◌, ℕ, ◌+◌, ◌-◌, ◌*◌, ◌/◌, ◌%◌, ◌≤◌, ◌<◌, arith, length, take, drop, length-append, length-drop, take-append-drop, take_at, drop_at, take_all, text}
use Rattle.calendar.specs.declared.Second.{Second}
use Rattle.calendar.specs.declared.Second.TheVariants.{Is as IsSecond, No as NoSecond}
use Rattle.calendar.specs.declared.Time.{Time}
use Rattle.calendar.specs.declared.Time.TheVariants.{Is, No}
use Rattle.calendar.specs.Days.{day_of, Valid}
use Rattle.calendar.specs.Text.{last_time, last_second, decimals, second_text, milli_text, time_text}
use Rattle.calendar.specs.Read.{Answers, pointed, millis, Form, Reads, date_said, clock_said, read_second, read_rest, join_time, read_time, TimeRead}
use Rattle.calendar.specs.Read.Reads.{is, no}
use Rattle.calendar.proofs.Said.{second_length, milli_length, said_valid, said_second, said_millis}
use Rattle.calendar.proofs.Answers.{checked_answers}
use Rattle.calendar.proofs.Rest.{RestForm, ReadsRest, digits_are, rest_complete, rest_answers}
use Rattle.calendar.proofs.Rest.ReadsRest.{is_rest, no_rest}

pub time_length : (n : ℕ) → length (time_text n) ≡ 24
unfolding time_text
time_length n = omega (arith, length-append (second_text (n / 1000)) (milli_text (n % 1000)), second_length (n / 1000), milli_length (n % 1000))

pub second_part : (n m : ℕ) → take 19 (second_text n ++ milli_text m) ≡ second_text n
second_part n m = take_at (second_text n) (milli_text m) 19 (second_length n)

-- a guess that is right wherever h is the text of a second
pub guess_second : (h : List ℕ) (c d : ℕ) → c ≡ clock_said h → (Valid (date_said h) → d ≡ day_of (date_said h)) → (n : ℕ) → n ≤ last_second → h ≡ second_text n → d * 86400 + c ≡ n
guess_second h c d e f n b z = rw (e, f (said_valid h n b z)) (said_second h n b z)

-- the two parts of a text of the form
module _ {s : List ℕ} {second : ℕ} {ds : List ℕ} (f : Form s second ds) where
  form_second : take 19 s ≡ second_text second
  form_second = ap (take 19) f.said ∙ take_at (second_text second) (pointed ds ++ text "Z") 19 (second_length second)

  form_rest : RestForm (drop 19 s) ds
  form_rest = record { digits = f.digits; most = f.most; said = ap (drop 19) f.said ∙ drop_at (second_text second) (pointed ds ++ text "Z") 19 (second_length second) }

-- the answers to the two parts make the answer to the whole
pub joined : (s : List ℕ) (a : Second) (b : Time) → Answers second_text last_second (take 19 s) a → ReadsRest (drop 19 s) b → Reads s (join_time a b)
joined s (IsSecond x) _ p (is_rest ds f) =
    let u = p.accepted x refl in
    is x ds (record { to_9999 = u.0; digits = f.digits; most = f.most; said = sym (take-append-drop 19 s) ∙ ap₂ (λ (k l : List ℕ). k ++ l) u.1 f.said })
joined s (IsSecond x) _ p (no_rest g) = no (λ n ds f. g ds (form_rest f))
joined s NoSecond b p q = no (λ n ds f. p.refused refl n f.to_9999 (form_second f))

-- the rest of the text, to its end
pub rest : (s : List ℕ) (r : Time) → r ≡ read_rest (take (length s - 19) (drop 19 s)) → ReadsRest (drop 19 s) r
rest s r e = subst (ReadsRest (drop 19 s)) (sym (e ∙ ap read_rest (take_all (length s - 19) (drop 19 s) (omega (arith, length-drop 19 s))))) (rest_answers (drop 19 s))

-- a text that is too short for the first part
pub short : (s : List ℕ) → length s < 19 → Reads s No
short s h = no (λ n ds f. omega (arith, ap length f.said, length-append (second_text n) (pointed ds ++ text "Z"), second_length n))

pub answers : (s : List ℕ) → Reads s (read_time s)
unfolding read_time read_second
answers s =
    let h = take 19 s in
    joined s (read_second h) (read_rest (drop 19 s))
    (checked_answers second_text last_second h (day_of (date_said h) * 86400 + clock_said h) (said_second h))
    (rest_answers (drop 19 s))

-- a text of the form is read
one_second : (h : List ℕ) (a : Second) → Answers second_text last_second h a → (n : ℕ) → n ≤ last_second → h ≡ second_text n → a ≡ IsSecond n
one_second h (IsSecond x) p n b e = let u = p.accepted x refl in ap IsSecond (sym (said_second h x u.0 u.1) ∙ said_second h n b e)
one_second h NoSecond p n b e = absurd (p.refused refl n b e)

pub complete : {s : List ℕ} {second : ℕ} {ds : List ℕ} → Form s second ds → read_time s ≡ Is (second * 1000 + millis ds) (length ds)
unfolding read_time read_second
complete {s} {second} {ds} f =
    let h = take 19 s in
    ap₂ join_time
    (one_second h (read_second h) (checked_answers second_text last_second h (day_of (date_said h) * 86400 + clock_said h) (said_second h)) second f.to_9999 (form_second f))
    (rest_complete (drop 19 s) ds (form_rest f))

-- what gives the answer equals the function
equal : (s : List ℕ) (r : Time) → Reads s r → r ≡ read_time s
equal s _ (is x ds f) = sym (complete f)
equal s _ (no g) = by (read_time s) (answers s)
  where
    by : (r : Time) → Reads s r → No ≡ r
    by _ (is x ds f) = absurd (g x ds f)
    by _ (no h) = refl

pub read_as : (s : List ℕ) (r : Time) → Reads s r → TimeRead s r
read_as s r p = record { answers = p; equals = equal s r p }

-- reading what was written gives the time again
pub read_written : (ms : ℕ) → ms ≤ last_time → read_time (time_text ms) ≡ Is ms 3
unfolding time_text milli_text
read_written ms h = complete written ∙ ap (λ (n : ℕ). Is n 3) (ap (λ (m : ℕ). ms / 1000 * 1000 + m) (said_millis (ms % 1000) (below ms)) ∙ whole ms)
  where
    below : (n : ℕ) → n % 1000 ≤ 999
    below n = omega arith

    whole : (n : ℕ) → n / 1000 * 1000 + n % 1000 ≡ n
    whole n = omega arith

    seconds : (n : ℕ) → n ≤ last_time → n / 1000 ≤ last_second
    seconds n h = omega arith

    written : Form (time_text ms) (ms / 1000) (decimals 3 (ms % 1000))
    written = record { to_9999 = seconds ms h; digits = digits_are (ms % 1000); most = omega arith; said = refl }
