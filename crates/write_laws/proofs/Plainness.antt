-- Which texts stand for themselves in a string.
-- Assumes nothing.
use Rattle.basis.proofs.Std.{ℕ, zero, suc, ◌+◌, ◌/◌, ◌%◌, ◌≤◌, ◌<◌, min, arith, ◌≡◌, refl, sym, subst, Bool, true, ⊎_elim, List, [], ◌∷◌, ◌++◌, leb, length, get_or, lt-ltb, le-ltb, leb-true, eqb-false, both, text, lt_or_ge, both_true}
use Rattle.calendar.specs.Civil.{date_of}
use Rattle.calendar.specs.Text.{last_time, decimals, date_text, clock_text, second_text, milli_text, time_text}
use Rattle.identity.specs.Hex.{hex_digit, lower_hex, lowered}
use Rattle.identity.specs.Text.{hex_bytes, identity_text}
use Rattle.identity.specs.Read.{SixteenBytes}
use Rattle.names.specs.Names.{names, name_of}
use Rattle.number.specs.Alphabet.{in_alphabet, all_in_alphabet}
use Rattle.number.specs.Decimal.{digits, decimal_of}
use Rattle.number.proofs.Alphabet.{not_taken, digits_in, decimal_in}
use Rattle.json_write.specs.Plain.{PlainByte, PlainText}
use Rattle.json_write.specs.Plain.PlainText.{none, more}
use Rattle.write_member.specs.Member.{moment_text}
use Rattle.write_laws.specs.Formed.{Label, Received}

-- a byte of the alphabet
byte : (b : ℕ) → in_alphabet b ≡ true → PlainByte b
byte b e =
    let x = both_true (leb 0x20 b) _ e in
    let y = both_true (leb b 0x7e) _ x.1 in
    let z = both_true _ _ y.1 in
    record {
      from = leb-true 0x20 b x.0;
      to = leb-true b 0x7e y.0;
      no_quote = eqb-false b 34 (not_taken _ z.0);
      no_backslash = eqb-false b 92 (not_taken _ z.1);
    }

pub plain : (s : List ℕ) → all_in_alphabet s ≡ true → PlainText s
plain [] e = none
plain (b ∷ s) e = let x = both_true (in_alphabet b) _ e in more (byte b x.0) (plain s x.1)

pub plain_append : {a b : List ℕ} → PlainText a → PlainText b → PlainText (a ++ b)
plain_append none q = q
plain_append (more p ps) q = more p (plain_append ps q)

pub plain_label : {s : List ℕ} → Label s → PlainText s
plain_label {s} h = plain s (both_true (leb (length s) 32) _ (both_true (leb 1 (length s)) _ h.label).1).1

pub plain_digits : (n : ℕ) → PlainText (digits n)
plain_digits n = plain (digits n) (digits_in n)

pub plain_decimal : (v : _) → PlainText (decimal_of v)
plain_decimal v = plain (decimal_of v) (decimal_in v)

-- all of the names
all_plain : List (List ℕ) → Bool
all_plain [] = true
all_plain (s ∷ ss) = both (all_in_alphabet s) (all_plain ss)

plain_at : (ss : List (List ℕ)) → all_plain ss ≡ true → (i : ℕ) → PlainText (get_or ss i [])
unfolding all_plain
plain_at [] e i = none
plain_at (s ∷ ss) e zero = plain s (both_true (all_in_alphabet s) _ e).0
plain_at (s ∷ ss) e (suc i) = plain_at ss (both_true (all_in_alphabet s) _ e).1 i

pub plain_name : (i : ℕ) → PlainText (name_of i)
unfolding all_plain
plain_name i = plain_at names refl i

-- a time
digit : (n : ℕ) → PlainByte (48 + n % 10)
digit n = record { from = omega arith; to = omega arith; no_quote = λ e. omega arith; no_backslash = λ e. omega arith }

plain_decimals : (w n : ℕ) → PlainText (decimals w n)
plain_decimals zero n = none
plain_decimals (suc w) n = plain_append (plain_decimals w (n / 10)) (more (digit n) none)

pub plain_time : (ms : ℕ) → PlainText (time_text ms)
unfolding time_text second_text milli_text
plain_time ms =
    let s = ms / 1000 in
    let d = date_of (s / 86400) in
    let date : PlainText (date_text d) = plain_append (plain_append (plain_append (plain_append (plain_decimals 4 d.year) (plain (text "-") refl)) (plain_decimals 2 d.month)) (plain (text "-") refl)) (plain_decimals 2 d.day) in
    let k = s % 86400 in
    let clock : PlainText (clock_text k) = plain_append (plain_append (plain_append (plain_append (plain_decimals 2 (k / 3600)) (plain (text ":") refl)) (plain_decimals 2 (k / 60 % 60))) (plain (text ":") refl)) (plain_decimals 2 (k % 60)) in
    let rest : PlainText (milli_text (ms % 1000)) = plain_append (plain_append (plain (text ".") refl) (plain_decimals 3 (ms % 1000))) (plain (text "Z") refl) in
    plain_append (plain_append (plain_append date (plain (text "T") refl)) clock) rest

pub plain_moment : (ms : ℕ) → PlainText (moment_text ms)
plain_moment ms = plain_time (min ms last_time)

-- an identity of ours
hex : (n : ℕ) → n < 16 → PlainByte (hex_digit n)
unfolding hex_digit
hex n h = ⊎_elim
    (λ (l : n < 10). rw (lt-ltb n 10 l) (record { from = omega arith; to = omega arith; no_quote = λ e. omega arith; no_backslash = λ e. omega arith }))
    (λ (l : 10 ≤ n). rw (le-ltb n 10 l) (record { from = omega arith; to = omega arith; no_quote = λ e. omega arith; no_backslash = λ e. omega arith }))
    (lt_or_ge n 10)

plain_hex : (bs : List ℕ) → ((k : ℕ) → get_or bs k 0 < 256) → (i n : ℕ) → PlainText (hex_bytes bs i n)
plain_hex bs h i zero = none
plain_hex bs h i (suc n) = more (hex (get_or bs i 0 / 16) (omega (arith, h i))) (more (hex (get_or bs i 0 % 16) (omega arith)) (plain_hex bs h (suc i) n))

pub plain_identity : {bs : List ℕ} → SixteenBytes bs → PlainText (identity_text bs)
unfolding identity_text
plain_identity {bs} v =
    let h = plain_hex bs v.bytes in
    let dash = plain (text "-") refl in
    plain_append (plain_append (plain_append (plain_append (plain_append (plain_append (plain_append (plain_append (h 0 4) dash) (h 4 2)) dash) (h 6 2)) dash) (h 8 2)) dash) (h 10 6)

-- one that was received
raised : (b : ℕ) → PlainByte (lower_hex b) → PlainByte b
unfolding lower_hex
raised b p = ⊎_elim
    (λ (l : b < 65). rw (lt-ltb b 65 l) at p)
    (λ (l : 65 ≤ b). ⊎_elim
    (λ (k : b < 71). record { from = omega arith; to = omega arith; no_quote = λ e. omega arith; no_backslash = λ e. omega arith })
    (λ (k : 71 ≤ b). rw (le-ltb b 65 l, le-ltb b 71 k) at p)
    (lt_or_ge b 71))
    (lt_or_ge b 65)

plain_raised : (s : List ℕ) → PlainText (lowered s) → PlainText s
plain_raised [] p = none
plain_raised (b ∷ s) (more p ps) = more (raised b p) (plain_raised s ps)

pub plain_received : {s : List ℕ} → Received s → PlainText s
plain_received {s} h = plain_raised s (subst PlainText (sym h.says.said) (plain_identity h.says.valid))
