-- What a packet call writes on a machine that can be told is well-formed.
-- Assumes nothing.
use Rattle.basis.proofs.Std.{ℕ, ◌≤◌, String, ◌≡◌, refl, subst, Bool, true, false, not, List, [], ◌∷◌, map, Option, some, none, arith, pick, both, same_bytes, Among, text, picked, not_both}
use Rattle.basis.specs.Lists.Among.{first, later}
use Rattle.answer.specs.Times.{last_time}
use Rattle.identity.specs.Read.{SixteenBytes}
use Rattle.names.specs.Names.{names, name_of, IsReason}
use Rattle.json_value.specs.Grammar.{Json}
use Rattle.write_message.specs.declared.Value.TheVariants.{Recent, Undefined}
use Rattle.write_message.specs.Message.{Message}
use Rattle.write_message.specs.Message.Message.{ack, not_ack}
use Rattle.write_laws.specs.Formed.{FormedValue, FormedStatuses, Formed, Label, Received}
use Rattle.write_laws.specs.Formed.Answering.{a_status, a_command}
use Rattle.write_laws.specs.Formed.FormedValue.{recent, undefined}
use Rattle.write_laws.specs.Formed.FormedStatuses.{none as no_status, more as one_status}
use Rattle.write_laws.specs.Formed.Formed.{formed_ack, formed_not_ack, formed_statuses, formed_included}
use Rattle.machine.specs.Words.{Bytes, maybe, is_some, or_else, any, place_of, Case, first_of}
use Rattle.machine.specs.State.{Alarm, Life, Machine, life_at, alarm_at, value_at, Effect}
use Rattle.machine.specs.Json.{string_of, is_type, is_included, asks_for}
use Rattle.machine.specs.Life.{is_older}
use Rattle.machine.specs.Answers.{is_answer, is_readable, is_ignored, asked, commanded, needs, is_missing, is_bad, component_asked, alarm_asked, value_asked, wants_reply, replies_at_once, reasons, reason_of, fails_check}
use Rattle.machine.specs.Items.{number_asked, happens, subscribe, unsubscribe, commands}
use Rattle.machine.specs.Messages.{value_of, answer_entry, answer_entries, response_message, command_entry, command_entries, command_message, included_message}
use Rattle.machine.specs.Effects.{closes, refusal, refuses, carried_out, reply_message, replying, receives}
use Rattle.demand_held.proofs.Lists.{maybe_cases, Each}
use Rattle.demand_held.proofs.Lists.Each.{no_more, one_more}
use Rattle.demand_told.proofs.Written.{quiet_answered}
use Rattle.demand_told.proofs.Replies.{none_at, nobody, asks_old, asks_new, at_once}
use Rattle.demand_told.proofs.Tests.{no_not, neither}
use Rattle.demand_told.proofs.Sane.{Sane, alarm_time, value_formed}
use Rattle.demand_told.proofs.Lays.{lays_carried_out}
use Rattle.demand_told.proofs.Found.{alarm_there, alarm_known}
use Rattle.demand_told.proofs.Entries.{Whole, component_label, whole_entries, status_needs, status_entry_lem, command_needs, command_entry_lem, value_signed}
use Rattle.demand_told.proofs.Formed.{alarm_formed, aggregated_formed}
use Rattle.demand_told.proofs.Received.{received_id}

-- ---- a reason is one of the twelve
abbrev number : String → ℕ
number reason = or_else 0 (place_of (same_bytes (text reason)) names)

abbrev Named : String → Type 0
Named reason = IsReason (number reason) × (name_of (number reason) ≡ text reason)

first_so : {A : Type 0} (P : A → Type 0) (ks : List (Case A)) (x : A) → Each (λ (k : Case A). P k.gives) ks → first_of ks ≡ some x → P x
first_so P [] x no_more e = absurd (let z : ◌≡◌ {A = ℕ} 0 1 = cc in omega arith)
first_so {A} P (k ∷ ks) x (one_more p r) e = go k.applies e (first_so P ks x r)
  where
    go : (b : Bool) → pick b (some k.gives) (first_of ks) ≡ some x → (first_of ks ≡ some x → P x) → P x
    go true f q = let same : k.gives ≡ x = cc in rw (← same) p
    go false f q = q f

reason_named : (m : Machine) (l : ℕ) (j : Json) (reason : String) → reason_of m l j ≡ some reason → Named reason
unfolding reasons
reason_named m l j reason e =
    first_so Named (reasons m l j) reason
    (one_more (tt, refl) (one_more (tt, refl) (one_more (tt, refl) (one_more (tt, refl) (one_more (tt, refl) (one_more (tt, refl) (one_more (tt, refl) (one_more (tt, refl) (one_more (tt, refl) (one_more (tt, refl) (one_more (tt, refl) (one_more (tt, refl) (one_more (tt, refl) (one_more (tt, refl) (one_more (tt, refl) no_more)))))))))))))))
    e

-- ---- what answers a StatusRequest or a CommandRequest
module _ (older : Bool) (j : Json) (complete : any (is_missing j) (needs older j) ≡ false) (good : any (is_bad j) (needs older j) ≡ false) (m : Machine) (s : Sane m) where
  status_formed : (e : Json) → FormedValue (maybe Undefined (λ (c : ℕ). value_of false (value_at m (number_asked m j e))) (component_asked m j))
  status_formed e = maybe_cases FormedValue Undefined _ (component_asked m j) (λ f. undefined) (λ c f. value_formed s (number_asked m j e) false)

  statuses_formed : {xs : List Json} → Each (Whole asked) xs → FormedStatuses (map (answer_entry m j) xs)
  statuses_formed no_more = no_status
  statuses_formed (one_more {x} w r) =
      let p = status_entry_lem x w in
      one_status (record { code = record { label = p.0 }; name = record { label = p.1 }; value = status_formed x }) (statuses_formed r)

  about_statuses : asks_for "StatusRequest" j ≡ true → Label (string_of "cId" j) × FormedStatuses (answer_entries m j)
  about_statuses typed = (
    record { label = component_label older "sS" asked j (status_needs older j typed) complete good },
    statuses_formed (whole_entries older "sS" asked j (status_needs older j typed) complete good),
  )

  order_formed : (e : Json) → FormedValue (maybe Undefined (λ (c : ℕ). Recent (value_asked e)) (component_asked m j))
  order_formed e = maybe_cases FormedValue Undefined (λ (c : ℕ). Recent (value_asked e)) (component_asked m j) (λ f. undefined) (λ c f. recent (value_signed e))

  orders_formed : {xs : List Json} → Each (Whole commanded) xs → FormedStatuses (map (command_entry m j) xs)
  orders_formed no_more = no_status
  orders_formed (one_more {x} w r) =
      let p = (command_entry_lem x w).0 in
      one_status (record { code = record { label = p.0 }; name = record { label = p.1 }; value = order_formed x }) (orders_formed r)

  about_commands : asks_for "CommandRequest" j ≡ true → Label (string_of "cId" j) × FormedStatuses (command_entries m j)
  about_commands typed = (
    record { label = component_label older "arg" commanded j (command_needs older j typed) complete good },
    orders_formed (whole_entries older "arg" commanded j (command_needs older j typed) complete good),
  )

  module _ (t : ℕ) (timely : t ≤ last_time) where
    response_formed : is_type "StatusRequest" j ≡ true → (id : Bytes) → SixteenBytes id → Formed (response_message m t id j)
    response_formed typed id sixteen = let x = about_statuses (asks_old "StatusRequest" j typed) in formed_statuses sixteen x.0 timely x.1

    commands_formed : is_type "CommandRequest" j ≡ true → (id : Bytes) → SixteenBytes id → Formed (command_message m t id j)
    commands_formed typed id sixteen = let x = about_commands (asks_old "CommandRequest" j typed) in formed_statuses sixteen x.0 timely x.1

    included_formed : replies_at_once j ≡ true → Received (string_of "mId" j) → Formed (included_message m t j)
    included_formed o r =
        picked Formed (is_included "CommandRequest" j) _ _
        (λ c. let x = about_commands (asks_new "CommandRequest" j c) in formed_included a_command r x.0 timely x.1)
        (λ c. let x = about_statuses (asks_new "StatusRequest" j (at_once j o (λ s. s) (λ d. not_both d c))) in formed_included a_status r x.0 timely x.1)

-- ---- a reply
abbrev SameSetup : Machine → Effect → Type 0
SameSetup m e = e.leaves.setup ≡ m.setup

same_happens : (m : Machine) (i : ℕ) (o : Option Alarm) → SameSetup m (happens m i o)
unfolding happens
same_happens m i none = refl
same_happens m i (some a) = refl

pub same_carried_out : (l t : ℕ) (j : Json) (m : Machine) → SameSetup m (carried_out l t j m)
unfolding carried_out subscribe unsubscribe commands
same_carried_out l t j m =
    picked (SameSetup m) (is_type "Version" j) _ _ (λ e. refl)
    (λ e. picked (SameSetup m) (is_type "Watchdog" j) _ _ (λ e. refl)
    (λ e. picked (SameSetup m) (is_type "Alarm" j) _ _ (λ e. same_happens m _ _)
    (λ e. picked (SameSetup m) (is_type "StatusSubscribe" j) _ _ (λ e. refl)
    (λ e. picked (SameSetup m) (is_type "StatusUnsubscribe" j) _ _ (λ e. refl)
    (λ e. picked (SameSetup m) (asks_for "CommandRequest" j) _ _ (λ e. refl) (λ e. refl))))))

asks_status : (m : Machine) (l : ℕ) (j : Json) → wants_reply m l j ≡ true → is_type "Alarm" j ≡ false → is_type "AggregatedStatusRequest" j ≡ false → is_type "CommandRequest" j ≡ false
    → is_type "StatusRequest" j ≡ true
asks_status m l j w a b d = go (is_type "Alarm" j) _ (is_type "AggregatedStatusRequest" j) (is_type "StatusRequest" j) (is_type "CommandRequest" j) w a b d
  where
    go : (a x b c d : Bool) → pick (both a x) true (pick b true (pick c true d)) ≡ true → a ≡ false → b ≡ false → d ≡ false → c ≡ true
    go true x b c d w p q r = not_both refl p
    go false x true c d w p q r = not_both refl q
    go false x false true d w p q r = refl
    go false x false false d w p q r = not_both w r

module _ (m : Machine) (s : Sane m) (l t : ℕ) (timely : t ≤ last_time) (id : Bytes) (sixteen : SixteenBytes id) (j : Json) (unrefused : reason_of m l j ≡ none) where
  abbrev Then : Machine
  Then = (carried_out l t j m).leaves

  then_sane : Sane Then
  then_sane = (lays_carried_out t timely s l j unrefused).sane

  complete : any (is_missing j) (needs (is_older (life_at m l)) j) ≡ false
  unfolding reasons
  complete = none_at (reasons m l j) unrefused (later (later (later (later first))))

  good : any (is_bad j) (needs (is_older (life_at m l)) j) ≡ false
  unfolding reasons
  good = none_at (reasons m l j) unrefused (later (later (later (later (later first)))))

  known : is_type "Alarm" j ≡ true → is_some (alarm_asked Then j) ≡ true
  known e = rw (same_carried_out l t j m) (alarm_known m l j unrefused e)

  reply_formed : wants_reply Then l j ≡ true → Formed (reply_message Then t id j)
  reply_formed w =
      picked Formed (is_type "Alarm" j) _ _
      (λ e. alarm_formed Then.setup.table then_sane.table id sixteen (or_else 0 (alarm_asked Then j)) (alarm_at Then (or_else 0 (alarm_asked Then j)))
      (alarm_there Then j (known e)) (alarm_time then_sane (or_else 0 (alarm_asked Then j))))
      (λ e. picked Formed (is_type "AggregatedStatusRequest" j) _ _
      (λ f. aggregated_formed Then.setup.table then_sane.table id sixteen Then.aggregated Then.aggregated_time then_sane.aggregated then_sane.aggregated_time_lem)
      (λ f. picked Formed (is_type "CommandRequest" j) _ _
      (λ g. commands_formed (is_older (life_at m l)) j complete good Then then_sane t timely g id sixteen)
      (λ g. response_formed (is_older (life_at m l)) j complete good Then then_sane t timely (asks_status Then l j w e f g) id sixteen)))

  response_formed_at_once : replies_at_once j ≡ true → Received (string_of "mId" j) → Formed (included_message Then t j)
  response_formed_at_once = included_formed (is_older (life_at m l)) j complete good Then then_sane t timely

-- ---- all that a packet call writes
abbrev pub EachFormed : Effect → Type 0
EachFormed e = (w : Message) → Among w e.messages → Formed w

one_formed : (v : Message) → Formed v → (w : Message) → Among w (v ∷ []) → Formed w
one_formed v f w (later x3) = elim x3 [ ]
one_formed v f w first = f

two_formed : (u v : Message) → Formed u → Formed v → (w : Message) → Among w (u ∷ v ∷ []) → Formed w
two_formed u v f g w (later (later x6)) = elim x6 [ ]
two_formed u v f g w first = f
two_formed u v f g w (later first) = g

readable : (k : Life) (j : Json) → is_answer j ≡ false → is_ignored k (some j) ≡ false → is_readable j ≡ true
unfolding is_ignored
readable k j other e = go (is_answer j) _ (is_readable j) _ other e
  where
    go : (a x r y : Bool) → a ≡ false → pick a x (pick (not r) true y) ≡ false → r ≡ true
    go true x r y o e = not_both refl o
    go false x r y o e = no_not r (neither (not r) y e).0

module _ (m : Machine) (s : Sane m) (l t : ℕ) (timely : t ≤ last_time) (id : Bytes) (sixteen : SixteenBytes id) (j : Json) (heard : is_ignored (life_at m l) (some j) ≡ false) where
  refuses_formed : is_answer j ≡ false → (reason : String) → reason_of m l j ≡ some reason → EachFormed (refuses l j m reason)
  unfolding refuses closes
  refuses_formed other reason e =
      picked EachFormed (fails_check reason) _ _ (λ f. one_formed (refusal j reason) written) (λ f. one_formed (refusal j reason) written)
    where
      written : Formed (refusal j reason)
      written =
          let named = reason_named m l j reason e in
          subst (λ (r : Bytes). Formed (not_ack (string_of "mId" j) r)) named.1 (formed_not_ack (received_id j (readable (life_at m l) j other heard)) (number reason) named.0)

  replying_formed : is_answer j ≡ false → reason_of m l j ≡ none → EachFormed (replying l t id j (carried_out l t j m))
  unfolding replying
  replying_formed other unrefused =
      picked EachFormed (replies_at_once j) _ _
      (λ o. one_formed (included_message (carried_out l t j m).leaves t j) (response_formed_at_once m s l t timely id sixteen j unrefused o m_id))
      (λ o. picked EachFormed (wants_reply (carried_out l t j m).leaves l j) _ _
      (λ w. two_formed (ack (string_of "mId" j)) (reply_message (carried_out l t j m).leaves t id j) (formed_ack m_id) (reply_formed m s l t timely id sixteen j unrefused w))
      (λ w. one_formed (ack (string_of "mId" j)) (formed_ack m_id)))
    where
      m_id : Received (string_of "mId" j)
      m_id = received_id j (readable (life_at m l) j other heard)

  pub received_formed : EachFormed (receives l t id m j)
  unfolding receives
  received_formed =
      picked EachFormed (is_answer j) _ _ (λ e w a. absurd (nobody (rw (quiet_answered l j m) at a)))
      (λ e. maybe_cases EachFormed _ _ (reason_of m l j) (λ f. replying_formed e f) (λ reason f. refuses_formed e reason f))
