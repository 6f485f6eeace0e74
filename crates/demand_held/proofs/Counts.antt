-- What a call leaves of the records of a link: all of them but those that it answers.
-- Assumes nothing.
use Rattle.basis.proofs.Std.{ℕ, ◌+◌, ◌<◌, ◌≡◌, refl, Bool, true, Option, some, none, ◌⊎◌, inl, inr, eqb, arith, eq-eqb, ne_eqb, count, not_both, bool_cases, picked, eq_or_ne}
use Rattle.json_value.specs.Grammar.{Json}
use Rattle.machine.specs.Words.{Bytes, maybe}
use Rattle.machine.specs.State.{Held, Sent, Awaited, Machine, with_held, life_at, Act, Effect, only}
use Rattle.machine.specs.State.Sent.{own_version, own_watchdog, no_record, the_record}
use Rattle.machine.specs.State.Act.{connect, disconnect, packet, alarm_input, status_value, aggregated_value, tick, pump}
use Rattle.machine.specs.Json.{read_packet, string_of, is_type}
use Rattle.machine.specs.Life.{unsent, close, awaited_by}
use Rattle.machine.specs.Pool.{is_for, holds, settled}
use Rattle.machine.specs.Answers.{is_answer}
use Rattle.machine.specs.Effects.{carried, closes, answer_closes, settle, answers, answered, receives, effect_of}
use Rattle.demand_held.specs.Held.{Answered, packet_link}
use Rattle.demand_held.specs.Held.Answered.{answered as answered_by}
use Rattle.demand_held.specs.Counted.{is_record, answers_of}
use Rattle.demand_held.proofs.Lists.{count_map, count_parted}
use Rattle.demand_held.proofs.Frame.{Ended}
use Rattle.demand_held.proofs.Lays.{lays}

module _ (m : Machine) (l : ℕ) where
  abbrev Answers : Option ℕ → ℕ
  Answers o = maybe 0 (λ (n : ℕ). count (is_record l n) m.pool.held) o

  abbrev Leaves : Option ℕ → Effect → Type 0
  Leaves o e = holds e.leaves.pool l + Answers o ≡ holds m.pool l

  -- ---- an answer on link l
  settle_leaves : (message : Sent) → holds (settle l message m).pool l + Answers (carried message) ≡ holds m.pool l
  settle_leaves message = go (carried message)
    where
      go : (o : Option ℕ) → holds (maybe m (λ (n : ℕ). with_held (settled l n m.pool.held) m) o).pool l + Answers o ≡ holds m.pool l
      go none = omega arith
      go (some n) = count_parted (λ (h : Held). eqb h.sequence n) (is_for l) m.pool.held

  closed_holds : holds (close l m).pool l ≡ holds m.pool l
  unfolding close
  closed_holds = count_map (is_for l) (is_for l) (unsent l) (λ h. refl) m.pool.held

  closing_carries_none : (is_ack : Bool) (message : Sent) → answer_closes (life_at m l) is_ack message ≡ true → carried message ≡ none
  closing_carries_none is_ack own_version e = refl
  closing_carries_none is_ack own_watchdog e = refl
  closing_carries_none is_ack no_record e = refl
  closing_carries_none is_ack (the_record n) e = not_both e refl

  answers_leaves : (s : Bytes) (is_ack : Bool) (a : Awaited) → Leaves (carried a.message) (answers l s is_ack m a)
  unfolding answers closes
  answers_leaves s is_ack a =
      picked (Leaves (carried a.message)) (answer_closes (life_at m l) is_ack a.message) _ _
      (λ e. rw (closing_carries_none is_ack a.message e) (omega (arith, closed_holds))) (λ e. settle_leaves a.message)

  answered_leaves : (j : Json) → Leaves (maybe none (λ (a : Awaited). carried a.message) (awaited_by (life_at m l) (string_of "oMId" j))) (answered l j m)
  unfolding answered
  answered_leaves j = go (awaited_by (life_at m l) (string_of "oMId" j))
    where
      go : (o : Option Awaited) → Leaves (maybe none (λ (a : Awaited). carried a.message) o) (maybe (only m) (answers l (string_of "oMId" j) (is_type "MessageAck" j) m) o)
      go none = omega arith
      go (some a) = answers_leaves (string_of "oMId" j) (is_type "MessageAck" j) a

  answer_leaves : (t room : ℕ) (random bytes : Bytes) (j : Json) → read_packet bytes ≡ some j → is_answer j ≡ true
      → holds (effect_of m t (packet l random bytes room)).leaves.pool l + answers_of m l (packet l random bytes room) ≡ holds m.pool l
  unfolding effect_of receives
  answer_leaves t room random bytes j r is = rw (eq-eqb l l refl, r, is) (answered_leaves j)

  -- ---- what is answered comes in a packet on link l
  its_link : (act : Act) (n : ℕ) → Answered m l n act → packet_link act ≡ some l
  its_link act n (answered_by r a w c) = refl

  no_packet : (act : Act) → packet_link act ≡ none → (n : ℕ) → Answered m l n act → ⊥
  no_packet act e n a = let p = its_link act n a in let z : ◌≡◌ {A = ℕ} 0 1 = cc in omega arith

  record IsRead (bytes : Bytes) : Type 0 where
    json : Json
    reads : read_packet bytes ≡ some json
    is : is_answer json ≡ true

  is_read : (k : ℕ) (random bytes : Bytes) (room n : ℕ) → Answered m l n (packet k random bytes room) → IsRead bytes
  is_read k random bytes room n (answered_by {j = j} r a w c) = record { json = j; reads = r; is = a }

  -- ---- every call
  module _ (primary : (p : ℕ) → m.setup.primary ≡ some p → p < m.setup.links) (t : ℕ) where
    abbrev Exact : Act → Type 0
    Exact act = holds (effect_of m t act).leaves.pool l + answers_of m l act ≡ holds m.pool l

    -- no answer to a record of link l
    unanswered : (act : Act) → ((k : ℕ) → packet_link act ≡ some k → k < m.setup.links) → ((n : ℕ) → Answered m l n act → ⊥) → answers_of m l act ≡ 0 → Exact act
    unanswered act there none_of zero_of = go ((lays m primary t act there).frame.as_many l)
      where
        go : (holds (effect_of m t act).leaves.pool l ≡ holds m.pool l) ⊎ Ended (λ l n. Answered m l n act) l → Exact act
        go (inl e) = omega (arith, e, zero_of)
        go (inr x) = absurd (none_of x.number x.ends)

    exact_answer : (k : ℕ) (random bytes : Bytes) (room : ℕ) → ((i : ℕ) → packet_link (packet k random bytes room) ≡ some i → i < m.setup.links)
        → (o : Option Json) → read_packet bytes ≡ o → k ≡ l → Exact (packet k random bytes room)
    exact_answer k random bytes room there none r e =
        unanswered (packet k random bytes room) there
        (λ n a. let x = is_read k random bytes room n a in let z : ◌≡◌ {A = ℕ} 0 1 = (let p = x.reads in cc) in omega arith) (rw (eq-eqb k l e, r))
    exact_answer k random bytes room there (some j) r e =
        bool_cases (is_answer j)
        (λ is. rw e (answer_leaves t room random bytes j r is))
        (λ other. unanswered (packet k random bytes room) there
        (λ n a. let x = is_read k random bytes room n a in let same : x.json ≡ j = (let p = x.reads in cc) in not_both x.is (rw same other)) (rw (eq-eqb k l e, r, other)))

    exact_packet : (k : ℕ) (random bytes : Bytes) (room : ℕ) → ((i : ℕ) → packet_link (packet k random bytes room) ≡ some i → i < m.setup.links)
        → (k ≡ l) ⊎ (k ≡ l → ⊥) → Exact (packet k random bytes room)
    exact_packet k random bytes room there (inl e) = exact_answer k random bytes room there (read_packet bytes) refl e
    exact_packet k random bytes room there (inr n) =
        unanswered (packet k random bytes room) there (λ i a. let p = its_link (packet k random bytes room) i a in n cc) (rw (ne_eqb k l n))

    pub exact : (act : Act) → ((k : ℕ) → packet_link act ≡ some k → k < m.setup.links) → Exact act
    exact (connect k) there = unanswered (connect k) there (no_packet (connect k) refl) refl
    exact (disconnect k) there = unanswered (disconnect k) there (no_packet (disconnect k) refl) refl
    exact (packet k random bytes room) there = exact_packet k random bytes room there (eq_or_ne k l)
    exact (alarm_input i active) there = unanswered (alarm_input i active) there (no_packet (alarm_input i active) refl) refl
    exact (status_value i v) there = unanswered (status_value i v) there (no_packet (status_value i v) refl) refl
    exact (aggregated_value v) there = unanswered (aggregated_value v) there (no_packet (aggregated_value v) refl) refl
    exact tick there = unanswered tick there (no_packet tick refl) refl
    exact (pump k random room) there = unanswered (pump k random room) there (no_packet (pump k random room) refl) refl
