-- Nothing but a CommandRequest for a component of the table, acknowledged, hands anything over.
-- Assumes nothing.
use Rattle.basis.proofs.Std.{ℕ, String, ◌≡◌, refl, sym, Bool, true, false, List, [], ◌∷◌, Option, some, none, eqb, same_bytes, Among, picked, not_both, same_true}
use Rattle.basis.specs.Lists.Among.{first}
use Rattle.json_value.specs.Grammar.{Json}
use Rattle.write_message.specs.Message.{Message}
use Rattle.write_message.specs.Message.Message.{ack}
use Rattle.machine.specs.Words.{Bytes, is_some, or_else}
use Rattle.machine.specs.State.{Alarm, Awaited, Command, Machine, Act, Call, Effect, life_at, value_at, only}
use Rattle.machine.specs.State.Act.{connect, disconnect, packet, alarm_input, status_value, aggregated_value, tick, pump}
use Rattle.machine.specs.Json.{read_packet, string_of, is_type, is_included, asks_for}
use Rattle.machine.specs.Life.{awaited_by, due}
use Rattle.machine.specs.Answers.{is_answer, component_asked, wants_reply, replies_at_once, reason_of, fails_check}
use Rattle.machine.specs.Items.{is_new, happens, subscribe, unsubscribe, becomes, commands_asked, commands, aggregates}
use Rattle.machine.specs.Effects.{connects, closes, ticks, own_identity, sends, answer_closes, answers, answered, refuses, carried_out, replying, receives, effect_of}
use Rattle.machine.specs.Step.{number_of, step}
use Rattle.demand_held.proofs.Lists.{maybe_cases}
use Rattle.demand_held.proofs.Steps.{step_done}
use Rattle.demand_told.specs.Demand.{messages_of}
use Rattle.demand_told.proofs.Replies.{nobody, asks_nothing_else, at_once}
use Rattle.demand_taken.specs.Commands.{commands_of, For, Acknowledges, Cause}
use Rattle.demand_taken.specs.Commands.Acknowledges.{by_ack, by_response}
use Rattle.demand_taken.proofs.Places.{stands}
use Rattle.demand_taken.proofs.Acked.{is_ack, by_outcome}

pub is_some_lem : {A : Type 0} (d : A) (o : Option A) → is_some o ≡ true → o ≡ some (or_else d o)
is_some_lem d none e = not_both e refl
is_some_lem d (some a) e = refl

-- a component that a request asks for is one of the table
pub for_component : (m : Machine) (j : Json) (component : ℕ) → asks_for "CommandRequest" j ≡ true → component_asked m j ≡ some component → For m.setup.table j component
for_component m j component typed known =
    let s = stands [] (same_bytes (string_of "cId" j)) m.setup.table.components component known in
    record { typed = typed; there = s.0; named = sym (same_true (string_of "cId" j) _ s.1) }

-- ---- what is handed over by what a packet comes to
abbrev Idle : Effect → Type 0
Idle e = e.commands ≡ []

idle_happens : (m : Machine) (i : ℕ) (o : Option Alarm) → Idle (happens m i o)
unfolding happens
idle_happens m i none = refl
idle_happens m i (some a) = refl

idle_answers : (l : ℕ) (s : Bytes) (is_ack : Bool) (m : Machine) (a : Awaited) → Idle (answers l s is_ack m a)
unfolding answers closes
idle_answers l s is_ack m a = picked Idle (answer_closes (life_at m l) is_ack a.message) _ _ (λ e. refl) (λ e. refl)

idle_answered : (l : ℕ) (j : Json) (m : Machine) → Idle (answered l j m)
unfolding answered
idle_answered l j m = maybe_cases Idle (only m) _ (awaited_by (life_at m l) (string_of "oMId" j)) (λ e. refl) (λ a e. idle_answers l _ _ m a)

idle_refuses : (l : ℕ) (j : Json) (m : Machine) (reason : String) → Idle (refuses l j m reason)
unfolding refuses closes
idle_refuses l j m reason = picked Idle (fails_check reason) _ _ (λ e. refl) (λ e. refl)

pub replying_hands : (l t : ℕ) (id : Bytes) (j : Json) (e : Effect) → (replying l t id j e).commands ≡ e.commands
unfolding replying
replying_hands l t id j e =
    picked (λ (x : Effect). x.commands ≡ e.commands) (replies_at_once j) _ _ (λ o. refl)
    (λ o. picked (λ (x : Effect). x.commands ≡ e.commands) (wants_reply e.leaves l j) _ _ (λ w. refl) (λ w. refl))

-- an acknowledgement among some messages
record Acks (m_id : Bytes) (ms : List Message) : Type 0 where
  answer : Message
  told : Among answer ms
  acknowledged : Acknowledges m_id answer

pub acks_so : {m_id : Bytes} {w : Message} → Acknowledges m_id w → is_ack w ≡ true
acks_so by_ack = refl
acks_so by_response = refl

abbrev AcksIt : Json → Effect → Type 0
AcksIt j x = Acks (string_of "mId" j) x.messages

replying_acks : (l t : ℕ) (id : Bytes) (j : Json) → asks_for "CommandRequest" j ≡ true → (e : Effect) → AcksIt j (replying l t id j e)
unfolding replying
replying_acks l t id j typed e =
    picked (AcksIt j) (replies_at_once j) _ _
    (λ o. picked (λ (w : Message). Acks (string_of "mId" j) (w ∷ [])) (is_included "CommandRequest" j) _ _
    (λ c. record { answer = _; told = first; acknowledged = by_response }) (λ c. not_both (at_once j o (λ s. not_both s no_status) (λ x. x)) c))
    (λ o. picked (AcksIt j) (wants_reply e.leaves l j) _ _
    (λ w. record { answer = ack (string_of "mId" j); told = first; acknowledged = by_ack })
    (λ w. record { answer = ack (string_of "mId" j); told = first; acknowledged = by_ack }))
  where
    no_status : is_included "StatusRequest" j ≡ false
    no_status = asks_nothing_else "CommandRequest" "StatusRequest" refl refl j typed

-- ---- nothing else hands anything over
record Ordered (m : Machine) (l : ℕ) (j : Json) : Type 0 where
  other : is_answer j ≡ false
  reason : reason_of m l j ≡ none
  typed : asks_for "CommandRequest" j ≡ true
  known : is_some (component_asked m j) ≡ true

module _ (x : Command) where
  abbrev Hands : Type 0 → Effect → Type 0
  Hands P e = Among x e.commands → P

  idle_hands : {P : Type 0} (e : Effect) → Idle e → Hands P e
  idle_hands e i a = absurd (nobody (rw i at a))

  happens_hands : {P : Type 0} (m : Machine) (i : ℕ) (o : Option Alarm) → Hands P (happens m i o)
  happens_hands m i o = idle_hands (happens m i o) (idle_happens m i o)

  asked_hands : (m : Machine) (j : Json) → Among x (commands_asked m j) → is_some (component_asked m j) ≡ true
  asked_hands m j =
      picked (λ (xs : List Command). Among x xs → is_some (component_asked m j) ≡ true) (is_some (component_asked m j)) _ [] (λ e a. e) (λ e a. absurd (nobody a))

  abbrev Asked : Machine → Json → Type 0
  Asked m j = (asks_for "CommandRequest" j ≡ true) × (is_some (component_asked m j) ≡ true)

  carried_out_asked : (l t : ℕ) (j : Json) (m : Machine) → Hands (Asked m j) (carried_out l t j m)
  unfolding carried_out subscribe unsubscribe commands
  carried_out_asked l t j m =
      picked (Hands (Asked m j)) (is_type "Version" j) _ _ (λ e a. absurd (nobody a))
      (λ e. picked (Hands (Asked m j)) (is_type "Watchdog" j) _ _ (λ e a. absurd (nobody a))
      (λ e. picked (Hands (Asked m j)) (is_type "Alarm" j) _ _ (λ e. happens_hands m _ _)
      (λ e. picked (Hands (Asked m j)) (is_type "StatusSubscribe" j) _ _ (λ e a. absurd (nobody a))
      (λ e. picked (Hands (Asked m j)) (is_type "StatusUnsubscribe" j) _ _ (λ e a. absurd (nobody a))
      (λ e. picked (Hands (Asked m j)) (asks_for "CommandRequest" j) _ _ (λ e a. (e, asked_hands m j a)) (λ e a. absurd (nobody a)))))))

  received_ordered : (l t : ℕ) (id : Bytes) (m : Machine) (j : Json) → Hands (Ordered m l j) (receives l t id m j)
  unfolding receives
  received_ordered l t id m j =
      picked (Hands (Ordered m l j)) (is_answer j) _ _ (λ e. idle_hands (answered l j m) (idle_answered l j m))
      (λ e. maybe_cases (Hands (Ordered m l j)) _ _ (reason_of m l j)
      (λ f a.
      let p = carried_out_asked l t j m (rw (replying_hands l t id j (carried_out l t j m)) at a) in
      record { other = e; reason = f; typed = p.0; known = p.1 })
      (λ reason f. idle_hands (refuses l j m reason) (idle_refuses l j m reason)))

received_acks : (l t : ℕ) (id : Bytes) (m : Machine) (j : Json) → Ordered m l j → AcksIt j (receives l t id m j)
unfolding receives
received_acks l t id m j o = rw (o.other, o.reason) (replying_acks l t id j o.typed (carried_out l t j m))

packet_acks : (m : Machine) (t l room : ℕ) (random bytes : Bytes) (j : Json) → read_packet bytes ≡ some j → Ordered m l j
    → AcksIt j (effect_of m t (packet l random bytes room))
unfolding effect_of
packet_acks m t l room random bytes j r o = rw r (received_acks l t (own_identity random) m j o)

-- ---- every call
module _ (m : Machine) (c : Call) where
  caused : (x : Command) → number_of m c ≡ none → (act : Act) → c.act ≡ act → Hands x (Cause m c) (effect_of m c.time act)
  unfolding effect_of connects closes becomes aggregates ticks sends
  caused x done (connect l) is = λ a. absurd (nobody a)
  caused x done (disconnect l) is = λ a. absurd (nobody a)
  caused x done (packet l random bytes room) is =
      maybe_cases (Hands x (Cause m c)) (only m) _ (read_packet bytes) (λ e a. absurd (nobody a))
      (λ j e a. by_order j e (received_ordered x l c.time (own_identity random) m j a))
    where
      acks : (j : Json) → read_packet bytes ≡ some j → Ordered m l j → Acks (string_of "mId" j) (messages_of (step m c).0)
      acks j e o = rw (step_done m c done, is) (packet_acks m c.time l room random bytes j e o)

      by_order : (j : Json) → read_packet bytes ≡ some j → Ordered m l j → Cause m c
      by_order j e o =
          record {
            link = l;
            room = room;
            random = random;
            bytes = bytes;
            is_packet = is;
            json = j;
            is_read = e;
            component = or_else 0 (component_asked m j);
            asked = for_component m j (or_else 0 (component_asked m j)) o.typed (is_some_lem 0 (component_asked m j) o.known);
            answer = (acks j e o).answer;
            told = (acks j e o).told;
            acknowledged = (acks j e o).acknowledged;
          }
  caused x done (alarm_input i active) is = happens_hands x m i _
  caused x done (status_value i v) is = picked (Hands x (Cause m c)) (is_new v (value_at m i)) _ _ (λ e a. absurd (nobody a)) (λ e a. absurd (nobody a))
  caused x done (aggregated_value v) is = picked (Hands x (Cause m c)) (eqb v m.aggregated) _ _ (λ e a. absurd (nobody a)) (λ e a. absurd (nobody a))
  caused x done tick is = λ a. absurd (nobody a)
  caused x done (pump l random room) is = maybe_cases (Hands x (Cause m c)) (only m) _ (due m l c.time) (λ e a. absurd (nobody a)) (λ d e a. absurd (nobody a))

  pub nothing_else : (x : Command) → Among x (commands_of (step m c).0) → Cause m c
  nothing_else x = by_outcome m c (λ o. Among x (commands_of o) → Cause m c) (λ n a. absurd (nobody a)) (λ e. caused x e c.act refl)
