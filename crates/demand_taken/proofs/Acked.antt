-- A packet that is acknowledged is one that no reason refuses.
-- Assumes nothing.
use Rattle.basis.proofs.Std.{ℕ, String, ◌≡◌, refl, Bool, true, false, [], ◌∷◌, Option, some, none, Among, picked, not_both}
use Rattle.basis.specs.Lists.Among.{first, later}
use Rattle.json_value.specs.Grammar.{Json}
use Rattle.write_message.specs.Message.{Message}
use Rattle.write_message.specs.Message.Message.{version, watchdog, ack, not_ack, alarm, aggregated, statuses, included}
use Rattle.machine.specs.Words.{Bytes, first_of}
use Rattle.machine.specs.State.{Machine, Act, Call, Outcome, Effect, life_at}
use Rattle.machine.specs.State.Act.{packet}
use Rattle.machine.specs.State.Outcome.{refused}
use Rattle.machine.specs.Json.{read_packet, is_type}
use Rattle.machine.specs.Life.{is_up, is_down}
use Rattle.machine.specs.Answers.{is_answer, is_ignored, reason_of, fails_check}
use Rattle.machine.specs.Effects.{closes, own_identity, refuses, receives, effect_of}
use Rattle.machine.specs.Step.{conditions, number_of, outcome, step}
use Rattle.demand_held.proofs.Lists.{maybe_cases}
use Rattle.demand_held.proofs.Steps.{laid, step_done, step_refused}
use Rattle.demand_told.specs.Demand.{messages_of}
use Rattle.demand_told.proofs.Written.{quiet_answered}
use Rattle.demand_told.proofs.Replies.{nobody, none_at, replied_up}

-- MessageAck, or a response that carries it
abbrev pub is_ack : Message → Bool
is_ack (version id site sxl) = false
is_ack (watchdog id t) = false
is_ack (ack id) = true
is_ack (not_ack id reason) = false
is_ack (alarm id component code state) = false
is_ack (aggregated id component t v) = false
is_ack (statuses kind id component t entries) = false
is_ack (included kind received component t entries) = true

pub not_acked_lem : (w : Message) (id reason : Bytes) → Among w (not_ack id reason ∷ []) → is_ack w ≡ true → ⊥
not_acked_lem w id reason (later x4) u = elim x4 [ ]
not_acked_lem w id reason first u = not_both u refl

refuses_no_ack : (l : ℕ) (j : Json) (m : Machine) (reason : String) (w : Message) → Among w (refuses l j m reason).messages → is_ack w ≡ true → ⊥
unfolding refuses closes
refuses_no_ack l j m reason w =
    picked (λ (x : Effect). Among w x.messages → is_ack w ≡ true → ⊥) (fails_check reason) _ _ (λ e. not_acked_lem w _ _) (λ e. not_acked_lem w _ _)

abbrev pub Unrefused : Machine → ℕ → Json → Type 0
Unrefused m l j = (is_answer j ≡ false) × (reason_of m l j ≡ none)

received_unrefused : (l t : ℕ) (id : Bytes) (m : Machine) (j : Json) (x : Message) → is_ack x ≡ true → Among x (receives l t id m j).messages → Unrefused m l j
unfolding receives
received_unrefused l t id m j x acks =
    picked (λ (e : Effect). Among x e.messages → Unrefused m l j) (is_answer j) _ _ (λ e a. absurd (nobody (rw (quiet_answered l j m) at a)))
    (λ e. maybe_cases (λ (e : Effect). Among x e.messages → Unrefused m l j) _ _ (reason_of m l j) (λ f a. (e, f))
    (λ reason f a. absurd (refuses_no_ack l j m reason x a acks)))

-- ---- a call is refused, or done
module _ (m : Machine) (c : Call) where
  pub by_outcome : (P : Outcome → Type 0) → ((n : ℕ) → P (refused n)) → (number_of m c ≡ none → P (outcome (laid m c))) → P (step m c).0
  by_outcome P nothing something = go (number_of m c) refl
    where
      go : (o : Option ℕ) → number_of m c ≡ o → P (step m c).0
      go none e = rw (step_done m c e) (something e)
      go (some n) e = rw (step_refused m c n e) (nothing n)

-- what the acknowledgement of a packet shows: no number and no reason refused it
pub record Heard (m : Machine) (t l room : ℕ) (random bytes : Bytes) (j : Json) : Type 0 where
  pub number : first_of (conditions m t (packet l random bytes room)) ≡ none
  pub other : is_answer j ≡ false
  pub reason : reason_of m l j ≡ none

module _ (m : Machine) (t l room : ℕ) (random bytes : Bytes) (j : Json) (read : read_packet bytes ≡ some j) where
  abbrev this : Act
  this = packet l random bytes room

  effect_acked : (x : Message) → is_ack x ≡ true → Among x (effect_of m t this).messages → Unrefused m l j
  unfolding effect_of
  effect_acked x acks a = received_unrefused l t (own_identity random) m j x acks (rw read at a)

  pub acked_heard : (c : Call) → c.time ≡ t → c.act ≡ this → (x : Message) → is_ack x ≡ true → Among x (messages_of (step m c).0) → Heard m t l room random bytes j
  acked_heard c at-t is x acks =
      by_outcome m c (λ o. Among x (messages_of o) → Heard m t l room random bytes j) (λ n a. absurd (nobody a))
      (λ e a. let u = effect_acked x acks (rw (at-t, is) at a) in record { number = rw (at-t, is) at e; other = u.0; reason = u.1 })

  module _ (heard : Heard m t l room random bytes j) where
    not_down : is_down (life_at m l) ≡ false
    unfolding conditions
    not_down = none_at (conditions m t this) heard.number (later (later (later (later first))))

    not_ignored : is_ignored (life_at m l) (some j) ≡ false
    unfolding conditions
    not_ignored = rw read at (none_at (conditions m t this) heard.number (later (later (later (later (later first))))))

    pub heard_up : is_type "Version" j ≡ false → is_type "Watchdog" j ≡ false → is_up (life_at m l) ≡ true
    heard_up v w = replied_up m l j (record { other = heard.other; reason = heard.reason; asked = (v, w) }) not_down not_ignored
