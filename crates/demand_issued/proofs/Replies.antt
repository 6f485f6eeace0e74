-- What a reply tells is what the history tells.
-- Assumes nothing.
use Rattle.basis.proofs.Std.{ℕ, ◌<◌, String, ◌≡◌, refl, sym, ap, subst, Bool, true, false, List, [], ◌∷◌, map, Option, some, none, ℤ, length, arith, pick, same_bytes, text, not_both, picked, bool_cases}
use Rattle.json_value.specs.Grammar.{Json}
use Rattle.write_message.specs.declared.Value.TheVariants.{Recent, Unknown}
use Rattle.machine.specs.Words.{Bytes, maybe, is_some, or_else, any}
use Rattle.machine.specs.State.{Start, Machine, Act, Call, Effect, only}
use Rattle.machine.specs.State.Act.{packet}
use Rattle.machine.specs.Json.{read_packet, entries_of, element_is, is_type, asks_for, is_included}
use Rattle.machine.specs.Life.{is_primary}
use Rattle.machine.specs.Answers.{is_answer, component_asked, alarm_asked, is_status_type, wants_reply, reason_of}
use Rattle.machine.specs.Items.{happens, number_asked}
use Rattle.machine.specs.Messages.{value_of, answer_entry}
use Rattle.machine.specs.Effects.{own_identity, answered, refuses, carried_out, replying, receives, effect_of}
use Rattle.machine.specs.Step.{step}
use Rattle.machine.specs.Run.{Past, past, Run}
use Rattle.demand_held.proofs.Lists.{maybe_cases, Each}
use Rattle.demand_held.proofs.Lists.Each.{no_more, one_more}
use Rattle.demand_held.proofs.Steps.{step_done, step_refused}
use Rattle.demand_told.specs.Demand.{messages_of}
use Rattle.demand_told.proofs.Replies.{one_type, with_ack, included_only, asks_new}
use Rattle.demand_told.proofs.Tests.{neither}
use Rattle.demand_told.proofs.Found.{alarm_there, alarm_known}
use Rattle.demand_told.proofs.GreetedDemand.{by_number}
use Rattle.demand_issued.specs.History.{is_ack, took, did, alarm_named, last_value}
use Rattle.demand_issued.specs.Replies.{entry_reply, reply_to, answer_to, DemandReplies}
use Rattle.demand_issued.proofs.Kept.{KeptBy, Known, is_named, one_word}
use Rattle.demand_issued.proofs.Older.{answered_silent, refuses_silent}
use Rattle.demand_issued.proofs.Goes.{entries_known, run_kept}

module _ (start : ℕ) (h : List Past) (m : Machine) (k : KeptBy start h m) (l t : ℕ) (id : Bytes) (j : Json) (unrefused : reason_of m l j ≡ none) (no_command : asks_for "CommandRequest" j ≡ false) where
  abbrev Tells : Effect → Type 0
  Tells e = e.messages ≡ answer_to m.setup start h t id l j

  no_order : is_type "CommandRequest" j ≡ false
  no_order = (neither (is_type "CommandRequest" j) (is_included "CommandRequest" j) no_command).0

  no_order_included : is_included "CommandRequest" j ≡ false
  no_order_included = (neither (is_type "CommandRequest" j) (is_included "CommandRequest" j) no_command).1

  -- ---- entries of a StatusRequest
  value_told : (o : Option ℤ) → value_of false o ≡ maybe Unknown (λ v. Recent v) o
  value_told none = refl
  value_told (some v) = refl

  entries_told : (o : Option ℕ) → component_asked m j ≡ o → is_status_type j ≡ true → map (answer_entry m j) (entries_of "sS" j) ≡ map (entry_reply m.setup start h t id j) (entries_of "sS" j)
  entries_told none e typed = go (entries_of "sS" j)
    where
      go : (es : List Json) → map (answer_entry m j) es ≡ map (entry_reply m.setup start h t id j) es
      go [] = refl
      go (x ∷ es) = rw (e, go es)
  entries_told (some c) e typed = go (entries_known m l j unrefused typed (rw e))
    where
      one : (x : Json) → Known m j x → answer_entry m j x ≡ entry_reply m.setup start h t id j x
      one x known = rw (is_named m t l j 0 0 x known, k.statuses (number_asked m j x), value_told (last_value (number_asked m j x) h))

      go : {es : List Json} → Each (Known m j) es → map (answer_entry m j) es ≡ map (entry_reply m.setup start h t id j) es
      go no_more = refl
      go (one_more {x = x} known r) = λ z. one x known z ∷ go r z

  -- ---- what is carried out
  nothing_done : is_type "Version" j ≡ false → is_type "Watchdog" j ≡ false → is_type "Alarm" j ≡ false → is_type "StatusSubscribe" j ≡ false → is_type "StatusUnsubscribe" j ≡ false
      → carried_out l t j m ≡ only m
  unfolding carried_out
  nothing_done a b c d e = rw (a, b, c, d, e, no_command)

  asked_only : is_type "Alarm" j ≡ true → element_is "aSp" "Request" j ≡ true → carried_out l t j m ≡ only m
  unfolding carried_out happens
  asked_only typed request =
      rw (
        one_type "Alarm" "Version" refl j typed,
        one_type "Alarm" "Watchdog" refl j typed,
        typed,
        one_word "aSp" "Request" "Acknowledge" refl j request,
        one_word "aSp" "Request" "Suspend" refl j request,
        one_word "aSp" "Request" "Resume" refl j request,
      )

  -- ---- by type: the new form
  included_tells : is_included "StatusRequest" j ≡ true → Tells (replying l t id j (carried_out l t j m))
  unfolding replying
  included_tells typed =
      rw (nothing_done (only_new "Version" refl) (only_new "Watchdog" refl) (only_new "Alarm" refl) (only_new "StatusSubscribe" refl) (only_new "StatusUnsubscribe" refl)) at_once
    where
      only_new : (b : String) → same_bytes (with_ack "StatusRequest") (text b) ≡ false → is_type b j ≡ false
      only_new b e = included_only "StatusRequest" b e j typed

      at_once : Tells (replying l t id j (only m))
      at_once = rw (typed, no_order_included, entries_told (component_asked m j) refl (rw (asks_new "StatusRequest" j typed)))

  -- ---- the others
  module _ (old : is_included "StatusRequest" j ≡ false) where
    no_reply : (e : Effect) → wants_reply e.leaves l j ≡ false → reply_to m.setup start h t id l j ≡ [] → Tells (replying l t id j e)
    unfolding replying
    no_reply e w r = rw (old, no_order_included, w, r)

    module _ (typed : is_type "Alarm" j ≡ true) where
      no_aggregated : is_type "AggregatedStatusRequest" j ≡ false
      no_aggregated = one_type "Alarm" "AggregatedStatusRequest" refl j typed

      no_status : is_type "StatusRequest" j ≡ false
      no_status = one_type "Alarm" "StatusRequest" refl j typed

      found : alarm_named m.setup.table j ≡ some (or_else 0 (alarm_asked m j))
      found = go (alarm_asked m j) (alarm_known m l j unrefused typed)
        where
          go : (o : Option ℕ) → is_some o ≡ true → o ≡ some (or_else 0 o)
          go none e = not_both e refl
          go (some n) e = refl

      there : or_else 0 (alarm_asked m j) < length m.alarms
      there = omega (arith, alarm_there m j (alarm_known m l j unrefused typed), k.alarm_count)

      asked : element_is "aSp" "Request" j ≡ true → is_primary m l ≡ true → Tells (replying l t id j (only m))
      unfolding replying
      asked request primary = rw (old, no_order_included, typed, request, primary, found, k.alarms (or_else 0 (alarm_asked m j)) there)

      alarm_tells : Tells (replying l t id j (carried_out l t j m))
      alarm_tells =
          bool_cases (element_is "aSp" "Request" j)
          (λ r. rw (asked_only typed r) (bool_cases (is_primary m l) (asked r)
          (λ p. no_reply (only m) (rw (typed, r, p, no_aggregated, no_status, no_order)) (rw (typed, r, p, no_aggregated, no_status)))))
          (λ r. no_reply (carried_out l t j m) (rw (typed, r, no_aggregated, no_status, no_order)) (rw (typed, r, no_aggregated, no_status)))

    aggregated_tells : is_type "AggregatedStatusRequest" j ≡ true → Tells (replying l t id j (only m))
    unfolding replying
    aggregated_tells typed = rw (old, no_order_included, one_type "AggregatedStatusRequest" "Alarm" refl j typed, typed, k.aggregate, k.change)

    status_tells : is_type "StatusRequest" j ≡ true → Tells (replying l t id j (only m))
    unfolding replying
    status_tells typed =
        rw (old, no_order_included, one_type "StatusRequest" "Alarm" refl j typed, one_type "StatusRequest" "AggregatedStatusRequest" refl j typed, typed, no_order, entries_told (component_asked m j) refl (rw typed))

    old_tells : Tells (replying l t id j (carried_out l t j m))
    old_tells =
        bool_cases (is_type "Alarm" j) alarm_tells
        (λ a. bool_cases (is_type "AggregatedStatusRequest" j) (λ e. rw (idle "AggregatedStatusRequest" refl refl refl refl a e) (aggregated_tells e))
        (λ b. bool_cases (is_type "StatusRequest" j) (λ e. rw (idle "StatusRequest" refl refl refl refl a e) (status_tells e))
        (λ c. no_reply (carried_out l t j m) (rw (a, b, c, no_order)) (rw (a, b, c)))))
      where
        idle : (name : String) → same_bytes (text name) (text "Version") ≡ false → same_bytes (text name) (text "Watchdog") ≡ false → same_bytes (text name) (text "StatusSubscribe") ≡ false
            → same_bytes (text name) (text "StatusUnsubscribe") ≡ false → is_type "Alarm" j ≡ false → is_type name j ≡ true → carried_out l t j m ≡ only m
        idle name v w s u a e =
            nothing_done (one_type name "Version" v j e) (one_type name "Watchdog" w j e) a (one_type name "StatusSubscribe" s j e) (one_type name "StatusUnsubscribe" u j e)

  pub tells : Tells (replying l t id j (carried_out l t j m))
  tells = bool_cases (is_included "StatusRequest" j) included_tells old_tells

none_some : {A : Type 0} {x : A} {P : Type 0} → none ≡ some x → P
none_some e = absurd (let z : ◌≡◌ {A = ℕ} 0 1 = cc in omega arith)

-- ---- a packet that was acknowledged
module _ (start : ℕ) (h : List Past) (m : Machine) (k : KeptBy start h m) (l t : ℕ) (id bytes : Bytes) (j : Json) (no_command : asks_for "CommandRequest" j ≡ false) where
  abbrev Replies : Effect → Type 0
  Replies e = took l e.messages (read_packet bytes) ≡ some (l, j) → e.messages ≡ answer_to m.setup start h t id l j

  unacked : (e : Effect) → any is_ack e.messages ≡ false → Replies e
  unacked e silent q = none_some (rw silent at q)

  same_packet : {x : Json} → read_packet bytes ≡ some x → (e : Effect) → took l e.messages (read_packet bytes) ≡ some (l, j) → x ≡ j
  same_packet {x} r e q = go (any is_ack e.messages) (rw r at q)
    where
      go : (b : Bool) → pick {A = Option (ℕ × Json)} b (some (l, x)) none ≡ some (l, j) → x ≡ j
      go true f = ap (λ (y : Option (ℕ × Json)). maybe x (λ z. z.1) y) f
      go false f = none_some f

  received_replies : (x : Json) → read_packet bytes ≡ some x → Replies (receives l t id m x)
  unfolding receives
  received_replies x r =
      picked Replies (is_answer x) _ _ (λ e. unacked (answered l x m) (ap (any is_ack) (answered_silent m l x).1))
      (λ e. maybe_cases Replies _ _ (reason_of m l x)
      (λ f q. go (same_packet r (replying l t id x (carried_out l t x m)) q) f)
      (λ reason f. unacked (refuses l x m reason) (refuses_silent m l x reason).1))
    where
      go : x ≡ j → reason_of m l x ≡ none → (replying l t id x (carried_out l t x m)).messages ≡ answer_to m.setup start h t id l j
      go e f =
          subst (λ (y : Json). (replying l t id y (carried_out l t y m)).messages ≡ answer_to m.setup start h t id l j) (sym e)
          (tells start h m k l t id j (subst (λ (y : Json). reason_of m l y ≡ none) e f) no_command)

  pub replies_of : (random : Bytes) (room : ℕ) → id ≡ own_identity random → Replies (effect_of m t (packet l random bytes room))
  unfolding effect_of
  replies_of random room e =
      rw (← e) (maybe_cases Replies (only m) _ (read_packet bytes) (λ f. unacked (only m) refl) received_replies)

module _ {s : Start} {h : List Past} {m : Machine} (run : Run s h m) (t l room : ℕ) (random bytes : Bytes) (j : Json) (no_command : asks_for "CommandRequest" j ≡ false) where
  abbrev call : Act → Call
  call act = record { time = t; act = act }

  abbrev RepliesAt : Act → Type 0
  RepliesAt act =
      (did (past m (call act))).took ≡ some (l, j)
      → messages_of (step m (call act)).0 ≡ answer_to m.setup s.time h t (own_identity random) l j

  replies_at : RepliesAt (packet l random bytes room)
  replies_at q =
      by_number m (call (packet l random bytes room))
      (λ e. rw (step_done m (call (packet l random bytes room)) e)
      (replies_of s.time h m (run_kept run) l t (own_identity random) bytes j no_command random room refl (rw (step_done m (call (packet l random bytes room)) e) at q)))
      (λ n e. none_some (rw (step_refused m (call (packet l random bytes room)) n e) at q))

  pub replies_by : (act : Act) → act ≡ packet l random bytes room → RepliesAt act
  replies_by act is = subst RepliesAt (sym is) replies_at

pub demand_replies : DemandReplies
demand_replies = record { replies = λ s h m r c l room random bytes j is q no_command. replies_by r c.time l room random bytes j no_command c.act is q }
