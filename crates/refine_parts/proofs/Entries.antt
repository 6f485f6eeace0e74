-- What the entry of a content says, and that it tells the content.
-- Assumes nothing.
use Rattle.basis.proofs.Std.{ℕ, ◌%◌, ◌≤◌, ◌<◌, ◌≡◌, refl, sym, ◌∙◌, ap, Bool, true, false, some, none, eqb, ℤ, mod-eq_of_lt, arith, eq-eqb, eqb-true, pick, both, untrue, both_first, both_second, both_false}
use Rattle.number.specs.Signed.{Signed32, word_of, signed_of}
use Rattle.number.proofs.RoundTrip.{signed_word}
use Rattle.entry.specs.Flags.{event_of, is_acknowledged, is_active, is_suspended}
use Rattle.entry.proofs.FlagLaws.{event_back, acknowledged_back, active_back, suspended_back, known_back, old_back}
use Rattle.pool.specs.declared.Sought.TheVariants.{Found}
use Rattle.pool_laws.specs.View.{of_alarm as is_alarm}
use Rattle.pool_laws.specs.Batch.{renumbered, under}
use Rattle.site.specs.Site.{owner}
use Rattle.machine.specs.Words.{is_some, maybe, alike}
use Rattle.machine.specs.State.{Event, event_number, Alarm, Content, Issued, Held}
use Rattle.machine.specs.State.Event.{Issue, Acknowledge, Suspend}
use Rattle.machine.specs.State.Content.{of_alarm, of_status, of_aggregated}
use Rattle.machine.specs.State.Sent.{no_record, the_record}
use Rattle.machine.specs.Life.{alarm_in as alarm_of, same_alarm, carries}
use Rattle.machine.specs.Readings.{entry_for}
use Rattle.refine_parts.specs.Record.{place_for, unnumbered, event_in, IsTold, flags_for, carried_like}
use Rattle.refine_parts.specs.Claims.{Contents}

module _ (l q : ℕ) where
  pub entry_link : (c : Content) → (entry_for l q c).link ≡ l
  entry_link (of_alarm i a) = refl
  entry_link (of_status i none old t) = refl
  entry_link (of_status i (some v) old t) = refl
  entry_link (of_aggregated v t) = refl

  pub entry_sequence : (c : Content) → (entry_for l q c).sequence ≡ q
  entry_sequence (of_alarm i a) = refl
  entry_sequence (of_status i none old t) = refl
  entry_sequence (of_status i (some v) old t) = refl
  entry_sequence (of_aggregated v t) = refl

-- under its number
pub numbered_entry : (k : ℕ) (i : Issued) (q : ℕ) → q ≤ 2147483647 → under (unnumbered k i) q ≡ entry_for (owner k i.link) q i.content
numbered_entry k i q h = ap (renumbered (unnumbered k i)) (mod-eq_of_lt (small q h)) ∙ go i.content
  where
    small : (q : ℕ) → q ≤ 2147483647 → q < 2147483648
    small q h = omega arith

    go : (c : Content) → renumbered (entry_for (owner k i.link) 0 c) q ≡ entry_for (owner k i.link) q c
    go (of_alarm n a) = refl
    go (of_status n none old t) = refl
    go (of_status n (some v) old t) = refl
    go (of_aggregated v t) = refl

-- an alarm's record
pub alarm_entry : (o k : ℕ) (h : Held) → is_alarm k (place_for o h) ≡ is_some (alarm_of k h.content)
alarm_entry o k h = go h.content
  where
    yes : (a : Alarm) (t : Bool) → t ≡ is_some (pick t (some a) none)
    yes a true = refl
    yes a false = refl

    go : (c : Content) → both (eqb (entry_for o h.sequence c).kind 0) (eqb (entry_for o h.sequence c).item k) ≡ is_some (alarm_of k c)
    go (of_alarm i a) = yes a (eqb i k)
    go (of_status i none old t) = refl
    go (of_status i (some v) old t) = refl
    go (of_aggregated v t) = refl

-- ---- what is told
event_again : (e : Event) → event_in (event_number e % 4) ≡ e
event_again Issue = refl
event_again Acknowledge = refl
event_again Suspend = refl

alarm_told : (i : ℕ) (a : Alarm) → IsTold (of_alarm i a)
alarm_told i a l q =
    rw (
      event_back (event_number a.event) a.acknowledged a.active a.suspended,
      acknowledged_back (event_number a.event) a.acknowledged a.active a.suspended,
      active_back (event_number a.event) a.acknowledged a.active a.suspended,
      suspended_back (event_number a.event) a.acknowledged a.active a.suspended,
      event_again a.event,
    )

value_told : (i : ℕ) (v : ℤ) (old : Bool) (t : ℕ) → Signed32 v → IsTold (of_status i (some v) old t)
value_told i v old t h l q = rw (known_back true old, old_back true old, signed_word v h)

no_value_told : (i : ℕ) (old : Bool) (t : ℕ) → IsTold (of_status i none old t)
no_value_told i old t l q = rw (known_back false old, old_back false old)

aggregated_told_lem : (v t : ℕ) → v < 256 → IsTold (of_aggregated v t)
aggregated_told_lem v t h l q = rw (mod-eq_of_lt h)

-- the value of a content, and of what its entry tells
abbrev value_of : ℤ → Content → ℤ
value_of v (of_alarm i a) = v
value_of v (of_status i none old t) = v
value_of v (of_status i (some w) old t) = w
value_of v (of_aggregated w t) = v

abbrev booleans_of : ℕ → Content → ℕ
booleans_of v (of_alarm i a) = v
booleans_of v (of_status i w old t) = v
booleans_of v (of_aggregated w t) = w

value_read : (i : ℕ) (v : ℤ) (old : Bool) (t : ℕ) → IsTold (of_status i (some v) old t) → signed_of (word_of v) ≡ v
value_read i v old t h = rw (known_back true old) at (ap (value_of (signed_of (word_of v))) (h 0 0))

aggregated_read : (v t : ℕ) → IsTold (of_aggregated v t) → v % 256 ≡ v
aggregated_read v t h = ap (booleans_of v) (h 0 0)

-- ---- alarms are alike where their times and their flags are
alike_is : (x y : Bool) → x ≡ y → alike y x ≡ true
alike_is true true e = refl
alike_is false false e = refl
alike_is true false e = sym e
alike_is false true e = e

is_alike : (x y : Bool) → alike y x ≡ true → x ≡ y
is_alike true true e = refl
is_alike false false e = refl
is_alike true false e = sym e
is_alike false true e = e

both_yes : (x : Bool) → both x true ≡ x
both_yes true = refl
both_yes false = refl

to_end : (t x y z w : Bool) → both t (both x (both y (both z w))) ≡ both x (both y (both z (both w t)))
to_end true x y z w = rw (both_yes w)
to_end false x y z w = rw (both_false w, both_false z, both_false y, both_false x)

same_test : (x y : Bool) → (x ≡ true → y ≡ true) → (y ≡ true → x ≡ true) → x ≡ y
same_test true y f g = sym (f refl)
same_test false true f g = g refl
same_test false false f g = refl

number_small : (e : Event) → event_number e % 4 ≡ event_number e
number_small Issue = refl
number_small Acknowledge = refl
number_small Suspend = refl

event_read : (a : Alarm) → event_of (flags_for a) ≡ event_number a.event
event_read a = event_back (event_number a.event) a.acknowledged a.active a.suspended ∙ number_small a.event

module _ (a b : Alarm) where
  abbrev states : Bool
  states =
      both (alike b.active a.active)
      (both (alike b.acknowledged a.acknowledged)
      (both (alike b.suspended a.suspended) (eqb (event_number b.event) (event_number a.event))))

  flags_alike : flags_for a ≡ flags_for b → states ≡ true
  flags_alike e =
      rw (
        alike_is a.active b.active
            (sym (active_back (event_number a.event) a.acknowledged a.active a.suspended) ∙ ap is_active e
            ∙ active_back (event_number b.event) b.acknowledged b.active b.suspended),
        alike_is a.acknowledged b.acknowledged
            (sym (acknowledged_back (event_number a.event) a.acknowledged a.active a.suspended) ∙ ap is_acknowledged e
            ∙ acknowledged_back (event_number b.event) b.acknowledged b.active b.suspended),
        alike_is a.suspended b.suspended
            (sym (suspended_back (event_number a.event) a.acknowledged a.active a.suspended) ∙ ap is_suspended e
            ∙ suspended_back (event_number b.event) b.acknowledged b.active b.suspended),
        eq-eqb (event_number b.event) (event_number a.event) (sym (event_read b) ∙ ap event_of (sym e) ∙ event_read a),
      )

  alike_flags : states ≡ true → flags_for a ≡ flags_for b
  alike_flags e =
      let k = both_second (alike b.active a.active) _ e in
      let s = both_second (alike b.acknowledged a.acknowledged) _ k in
      rw (
        is_alike a.active b.active (both_first (alike b.active a.active) _ e),
        is_alike a.acknowledged b.acknowledged (both_first (alike b.acknowledged a.acknowledged) _ k),
        is_alike a.suspended b.suspended (both_first (alike b.suspended a.suspended) _ s),
        eqb-true (event_number b.event) (event_number a.event) (both_second (alike b.suspended a.suspended) _ s),
      )

  flags_same : eqb (flags_for a) (flags_for b) ≡ states
  flags_same = same_test _ states (λ e. flags_alike (eqb-true (flags_for a) (flags_for b) e)) (λ e. eq-eqb (flags_for a) (flags_for b) (alike_flags e))

  times_same : eqb a.time b.time ≡ eqb b.time a.time
  times_same = same_test _ _ (λ e. eq-eqb b.time a.time (sym (eqb-true a.time b.time e))) (λ e. eq-eqb a.time b.time (sym (eqb-true b.time a.time e)))

  same_alarm_lem : both (eqb a.time b.time) (eqb (flags_for a) (flags_for b)) ≡ same_alarm b a
  same_alarm_lem =
      rw (flags_same, times_same) (to_end (eqb b.time a.time) (alike b.active a.active) (alike b.acknowledged a.acknowledged)
      (alike b.suspended a.suspended) (eqb (event_number b.event) (event_number a.event)))

-- the message of the first pass carries an alarm's record
pub carried_entry : (o : ℕ) (b : Alarm) (i : ℕ) (h : Held) → is_some (alarm_of i h.content) ≡ true → carries b i h ≡ carried_like b (Found (place_for o h))
carried_entry o b i h e = go h.content e
  where
    number : (a : Alarm) (t : Bool) → is_some (pick t (some a) none) ≡ true → t ≡ true
    number a true e = refl
    number a false e = e

    go : (c : Content) → is_some (alarm_of i c) ≡ true
        → pick (maybe false (same_alarm b) (alarm_of i c)) (the_record h.sequence) no_record
        ≡ pick (both (eqb (entry_for o h.sequence c).time b.time) (eqb (entry_for o h.sequence c).flags (flags_for b))) (the_record (entry_for o h.sequence c).sequence) no_record
    go (of_alarm n a) e = rw (number a (eqb n i) e, same_alarm_lem a b)
    go (of_status n none old t) e = untrue e
    go (of_status n (some v) old t) e = untrue e
    go (of_aggregated v t) e = untrue e

pub contents : Contents
contents =
    record {
      alarm = alarm_told;
      value = value_told;
      no_value_lem = no_value_told;
      aggregated = aggregated_told_lem;
      value_read = value_read;
      aggregated_read = aggregated_read;
      same_alarm_lem = same_alarm_lem;
    }
