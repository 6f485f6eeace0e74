-- The record of its own fields, and that the kind has them.
-- Assumes nothing.
use Rattle.basis.proofs.Std.{ℕ, zero, suc, ◌^◌, ◌<◌, ◌≡◌, refl, sym, ap, ap₂, ◌∙◌, true, false, List, [], arith, eqb, eq-eqb, ne_eqb, picked, bit, get_or, length, same_bytes, same_true, pos, negsuc, ℤ}
use Rattle.number.specs.Decimal.{digits, decimal_of}
use Rattle.number.specs.Signed.{signed_of}
use Rattle.number.proofs.Digits.{begins}
use Rattle.entry.specs.declared.Entry.{Entry}
use Rattle.entry.specs.Flags.{event_of, is_acknowledged, is_active, is_suspended, is_known, is_old}
use Rattle.entry.specs.Valid.{Valid, Alarm, OfKind, an_alarm, a_status, an_aggregated}
use Rattle.entry.proofs.FlagLaws.{alarm_flags_again, status_flags_again}
use Rattle.entry.proofs.ValidLaws.{alarm_flags_lem, status_flags_lem}
use Rattle.csv_words.specs.Words.{kind_word, event_word}
use Rattle.csv_entry.specs.Fields.{fields_of}
use Rattle.csv_entry.specs.Guess.{kind_in, first_of, flags_in, value_in, guess_of}
use Rattle.csv_entry.specs.Judged.{present_from, present}
use Rattle.csv_entry.proofs.Shape.{three, as_alarm, as_status, as_aggregated, link_is, item_is, time_is, sequence_is, number_back, below_back, small_back, one_back, signed_back, value_back}

pub event_below : {e : Entry} → Alarm e → event_of e.flags < 3
event_below a = let f = alarm_flags_lem a in omega (arith, f.0)

flags_back : {e : Entry} → OfKind e → flags_in e.kind (fields_of e) ≡ e.flags
unfolding flags_in
flags_back {e} (an_alarm a) =
    let f = alarm_flags_lem a in
    rw (as_alarm e a.kind, eq-eqb e.kind 0 a.kind, (three (event_of e.flags) (event_below a)).1, one_back (is_acknowledged e.flags), one_back (is_active e.flags), one_back (is_suspended e.flags))
    (sym (alarm_flags_again e.flags (omega (arith, f.0)) f.1))
flags_back {e} (a_status s) =
    let f = status_flags_lem s in
    rw (as_status e s.kind, ne_eqb e.kind 0 (λ q. omega (arith, s.kind)), eq-eqb e.kind 1 s.kind, one_back (is_known e.flags), one_back (is_old e.flags))
    (sym (status_flags_again e.flags f.0 f.1))
flags_back {e} (an_aggregated g) = rw (ne_eqb e.kind 0 (λ q. omega (arith, g.kind)), ne_eqb e.kind 1 (λ q. omega (arith, g.kind))) (sym g.flags)

value_is : {e : Entry} → OfKind e → value_in e.kind (fields_of e) ≡ e.value
unfolding value_in
value_is {e} (an_alarm a) = rw (eq-eqb e.kind 0 a.kind) (sym a.value)
value_is {e} (a_status s) = rw (as_status e s.kind, ne_eqb e.kind 0 (λ q. omega (arith, s.kind)), value_back e.value s.value) (below_back (2 ^ 32) e.value s.value)
value_is {e} (an_aggregated g) =
    rw (as_aggregated e g.kind, ne_eqb e.kind 0 (λ q. omega (arith, g.kind)), signed_back e.value (omega (arith, g.value))) (below_back (2 ^ 32) e.value (omega (arith, g.value)))

pub named : {e : Entry} → OfKind e → (get_or (fields_of e) 1 [] ≡ kind_word e.kind) × (e.kind < 3)
named {e} (an_alarm a) = (rw (as_alarm e a.kind, a.kind), omega (arith, a.kind))
named {e} (a_status s) = (rw (as_status e s.kind, s.kind), omega (arith, s.kind))
named {e} (an_aggregated g) = (rw (as_aggregated e g.kind, g.kind), omega (arith, g.kind))

pub guessed : {e : Entry} → Valid e → guess_of e.kind (fields_of e) ≡ e
unfolding guess_of
guessed {e} v =
    rw (
      link_is e,
      item_is e,
      time_is e,
      sequence_is e,
      flags_back v.of_kind,
      value_is v.of_kind,
      small_back (2 ^ 16) e.link (omega (arith, v.link)) (omega arith),
      small_back (2 ^ 16) e.item (omega (arith, item_below v.of_kind)) (omega arith),
      small_back (2 ^ 32) e.sequence (omega (arith, v.sequence)) (omega arith),
      number_back e.time (omega (arith, v.time)),
    )
  where
    item_below : {e : Entry} → OfKind e → e.item < 32
    item_below (an_alarm a) = a.item
    item_below (a_status s) = s.item
    item_below (an_aggregated g) = omega (arith, g.item)

-- one record has these fields
pub one_line : {e f : Entry} → Valid e → Valid f → fields_of e ≡ fields_of f → e ≡ f
one_line {e} {f} v w h =
    let a = named v.of_kind in
    let b = named w.of_kind in
    let k : e.kind ≡ f.kind = sym (three e.kind a.1).0 ∙ ap kind_in (sym a.0 ∙ ap (λ (l : List (List ℕ)). get_or l 1 []) h ∙ b.0) ∙ (three f.kind b.1).0 in
    sym (guessed v) ∙ ap₂ guess_of k h ∙ guessed w

-- the columns of its kind

digits_some : (n : ℕ) → eqb (length (digits n)) 0 ≡ false
digits_some n = let b = begins n in rw b.whole (ne_eqb (suc (length b.behind)) 0 (λ q. omega arith))

decimal_some : (v : ℤ) → eqb (length (decimal_of v)) 0 ≡ false
unfolding decimal_of
decimal_some (pos n) = digits_some n
decimal_some (negsuc n) = ne_eqb (suc (length (digits (suc n)))) 0 (λ q. omega arith)

event_some : (k : ℕ) → k < 3 → eqb (length (event_word k)) 0 ≡ false
event_some zero h = refl
event_some (suc zero) h = refl
event_some (suc (suc zero)) h = refl
event_some (suc (suc (suc k))) h = absurd (omega arith)

pub has_them : {e : Entry} → OfKind e → present e.kind (fields_of e) ≡ true
unfolding present_from
has_them {e} (an_alarm a) =
    rw (
      as_alarm e a.kind,
      a.kind,
      digits_some e.link,
      digits_some e.item,
      event_some (event_of e.flags) (event_below a),
      digits_some (bit (is_acknowledged e.flags)),
      digits_some (bit (is_active e.flags)),
      digits_some (bit (is_suspended e.flags)),
      digits_some e.time,
      digits_some e.sequence,
    )
has_them {e} (a_status s) =
    rw (
      as_status e s.kind,
      s.kind,
      digits_some e.link,
      digits_some e.item,
      digits_some (bit (is_known e.flags)),
      digits_some (bit (is_old e.flags)),
      digits_some e.time,
      decimal_some (signed_of e.value),
      digits_some e.sequence,
    )
has_them {e} (an_aggregated g) =
    rw (as_aggregated e g.kind, g.kind, digits_some e.link, digits_some e.item, digits_some e.time, digits_some e.value, digits_some e.sequence)

-- the kind that a text names
pub kind_named : (f : List ℕ) → kind_in f < 3 → f ≡ kind_word (kind_in f)
unfolding first_of
kind_named f = picked P (same_bytes f (kind_word 0)) _ _ (λ e h. same_true f (kind_word 0) e) λ _. picked P (same_bytes f (kind_word 1)) _ _ (λ e h. same_true f (kind_word 1) e) λ _. picked P (same_bytes f (kind_word 2)) _ _ (λ e h. same_true f (kind_word 2) e) (λ _ h. absurd (omega arith))
  where
    P : ℕ → Type 0
    P k = k < 3 → f ≡ kind_word k
