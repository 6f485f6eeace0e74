-- A done call keeps a link's life true to the history.
-- Assumes nothing.
use Rattle.basis.proofs.Std.{ℕ, String, ◌≡◌, refl, sym, Bool, true, false, not, List, [], ◌∷◌, Option, some, none, ◌⊎◌, inl, inr, eqb, get_or, arith, eq-eqb, ne_eqb, pick, both, Among, bool_cases, picked, eq_or_ne, not_both, both_true}
use Rattle.basis.specs.Lists.Among.{first, later}
use Rattle.json_value.specs.Grammar.{Json}
use Rattle.write_message.specs.Message.{Message}
use Rattle.write_message.specs.Message.Message.{ack}
use Rattle.machine.specs.Words.{Bytes, or_else, is_number, any, changed, first_of}
use Rattle.machine.specs.State.{Alarm, Awaited, Life, fresh, Machine, with_life, life_at, Act, Effect, handing, effect, only}
use Rattle.machine.specs.State.Sent.{no_record}
use Rattle.machine.specs.State.Act.{connect, disconnect, packet, alarm_input, status_value, aggregated_value, tick, pump}
use Rattle.machine.specs.Json.{read_packet, string_of, element_is, is_type, asks_for, is_identity_of}
use Rattle.machine.specs.Life.{now_taken, with_watchdogs, common, names_site, equal_sxl, awaited_by, awaiting, answered_to, Due, due}
use Rattle.machine.specs.Answers.{is_answer, awaited_here, is_ignored, wants_reply, replies_at_once, reasons, reason_of, fails_check}
use Rattle.machine.specs.Items.{happens, subscribe, unsubscribe, intervals, commands}
use Rattle.machine.specs.Messages.{included_message}
use Rattle.machine.specs.Effects.{connects, closes, late, ticks, own_identity, sent_as, after_sending, mark_sent, sends, answer_closes, acknowledges, settle, answers, answered, refusal, refuses, agreed, carried_out, reply_message, replying, receives, effect_of}
use Rattle.machine.specs.Step.{conditions, outcome}
use Rattle.machine.specs.Run.{Past}
use Rattle.demand_held.proofs.Lists.{maybe_cases}
use Rattle.demand_told.specs.Demand.{messages_of, link_of}
use Rattle.demand_told.proofs.Replies.{none_at, not_at_once}
use Rattle.demand_told.specs.Life.{connected_by, going_on, lived}
use Rattle.demand_told.specs.Greeted.{Came, IsGoodVersion}
use Rattle.demand_told.specs.Greeted.Came.{came}
use Rattle.demand_told.specs.Greeted.Answered.{answered as answered_by}
use Rattle.demand_told.proofs.Tests.{must, no_not, found}
use Rattle.demand_told.proofs.Checks.{good_version}
use Rattle.demand_told.proofs.Lives.{set_there, closed_there, all_there}
use Rattle.demand_told.proofs.Apart.{Apart, apart, apart_tick}
use Rattle.demand_told.proofs.Turns.{acked, accepted, taken, sent, waits, awaits, unawaits}
use Rattle.demand_told.proofs.Kept.{BackedBy, Kept, kept_down, kept_opened, goes_on_lem}

answer_marked : (k : Life) (j : Json) → is_answer j ≡ true → is_ignored k (some j) ≡ false → element_is "mType" "rSMsg" j ≡ true
unfolding is_ignored
answer_marked k j is e = go (is_answer j) (element_is "mType" "rSMsg" j) (awaited_here k j) _ is e
  where
    go : (a b c d : Bool) → a ≡ true → pick a (not (both b c)) d ≡ false → b ≡ true
    go true b c d is e = (both_true b c (no_not (both b c) e)).0
    go false b c d is e = not_both is refl

-- ---- what a packet says where no reason applies
module _ (u m : Machine) (same : u.setup ≡ m.setup) (l : ℕ) (j : Json) (unrefused : reason_of m l j ≡ none) where
  pub marked : element_is "mType" "rSMsg" j ≡ true
  unfolding reasons
  marked = no_not _ (none_at (reasons m l j) unrefused (later first))

  pub checked : is_type "Version" j ≡ true → IsGoodVersion u (or_else [] (common j)) j
  unfolding reasons
  checked is =
      good_version u j is
      (must _ _ is (none_at (reasons m l j) unrefused (later (later (later (later (later (later (later first)))))))))
      (rw same (must _ (names_site m j) is (none_at (reasons m l j) unrefused (later (later (later (later (later (later (later (later first)))))))))))
      (rw same (must _ (equal_sxl m j) is (none_at (reasons m l j) unrefused (later (later (later (later (later (later (later (later (later first))))))))))))

module _ (u m : Machine) (same : u.setup ≡ m.setup) (t : ℕ) (act : Act) (l : ℕ) (life : List Past) (kept : Kept u l (life_at m l) life) where
  abbrev past_of : Effect → Past
  past_of e = record { call = record { time = t; act = act }; gave = outcome e }

  abbrev pub Goes : Effect → Type 0
  Goes e = Kept u l (life_at e.leaves l) (lived l (past_of e) life)

  -- the link is Down after it
  falls : (e : Effect) → ((P : Life → Type 0) → P (fresh false) → P (life_at e.leaves l)) → Goes e
  falls e f = f (λ k. Kept u l k (lived l (past_of e) life)) (kept_down u l (lived l (past_of e) life))

  -- the life goes on
  turns : (e : Effect) → is_number l (connected_by act) ≡ false → any (eqb l) e.closed ≡ false → Kept u l (life_at e.leaves l) (going_on (past_of e) life) → Goes e
  turns e n c k = rw (n, c) k

  stays : (e : Effect) → is_number l (connected_by act) ≡ false → Apart m l e → Goes e
  stays e n a = turns e n a.unnamed (rw a.life (goes_on_lem (past_of e) kept))

  pub goes_closes : (messages : List Message) → Goes (closes l messages m)
  unfolding closes
  goes_closes messages = falls (closes l messages m) (λ P p. closed_there P l m p)

  pub goes_ticks : is_number l (connected_by act) ≡ false → Goes (ticks t m)
  unfolding ticks intervals
  goes_ticks n =
      bool_cases (any (eqb l) (late t m))
      (λ e. falls (ticks t m) (λ P p. all_there P l (late t m) m e p))
      (λ e. stays (ticks t m) n (apart_tick m l t e))

-- what is carried out closes nothing
abbrev pub Open : Effect → Type 0
Open e = (l : ℕ) → any (eqb l) e.closed ≡ false

open_happens : (m : Machine) (i : ℕ) (o : Option Alarm) → Open (happens m i o)
unfolding happens
open_happens m i none = λ n. refl
open_happens m i (some a) = λ n. refl

pub open_carried_out : (m : Machine) (l t : ℕ) (j : Json) → Open (carried_out l t j m)
unfolding carried_out subscribe unsubscribe commands
open_carried_out m l t j =
    picked Open (is_type "Version" j) _ _ (λ e n. refl)
    (λ e. picked Open (is_type "Watchdog" j) _ _ (λ e n. refl)
    (λ e. picked Open (is_type "Alarm" j) _ _ (λ e. open_happens m _ _)
    (λ e. picked Open (is_type "StatusSubscribe" j) _ _ (λ e n. refl)
    (λ e. picked Open (is_type "StatusUnsubscribe" j) _ _ (λ e n. refl)
    (λ e. picked Open (asks_for "CommandRequest" j) _ _ (λ e n. refl) (λ e n. refl))))))

-- ---- calls of link l
module _ (u m : Machine) (same : u.setup ≡ m.setup) (t l : ℕ) (life : List Past) (kept : Kept u l (life_at m l) life) (lives : life ≡ [] → ⊥) where
  -- set for link l
  sets : (x : Life) (xs : List Life) (p : Past) → Kept u l x (going_on p life) → Kept u l (get_or (changed l (λ y. x) xs) l (fresh false)) (going_on p life)
  sets x xs p k = set_there (fresh false) (λ y. Kept u l y (going_on p life)) l x xs k (kept_down u l (going_on p life))

  module _ (random bytes : Bytes) (room : ℕ) (j : Json) (is : read_packet bytes ≡ some j) where
    abbrev this : Act
    this = packet l random bytes room

    abbrev Received : Effect → Type 0
    Received = Goes u m same t this l life kept

    abbrev this_past : Effect → Past
    this_past e = past_of u m same t this l life kept e

    came_by : (e : Effect) → Came l j (past_of u m same t this l life kept e)
    came_by e = came refl is refl

    -- an answer
    abbrev answered_life : Awaited → Life
    answered_life a = answered_to (string_of "oMId" j) (acknowledges (is_type "MessageAck" j) a.message (life_at m l))

    abbrev after_answer : Awaited → Effect
    after_answer a = only (with_life l (answered_life a) (settle l a.message m))

    goes_answers : element_is "mType" "rSMsg" j ≡ true → (a : Awaited) → awaited_by (life_at m l) (string_of "oMId" j) ≡ some a
        → Received (answers l (string_of "oMId" j) (is_type "MessageAck" j) m a)
    unfolding answers
    goes_answers marked a e =
        picked Received (answer_closes (life_at m l) (is_type "MessageAck" j) a.message) _ _
        (λ f. goes_closes u m same t this l life kept [])
        (λ f. turns u m same t this l life kept (after_answer a) refl refl
        (sets (answered_life a) (settle l a.message m).lives (this_past (after_answer a))
        (unawaits (acked u l (life_at m l) life kept (this_past (after_answer a)) lives a.identity j (came_by (after_answer a)) marked own.1 a.message own.0) (string_of "oMId" j))))
      where
        own : BackedBy l life a × (is_identity_of a.identity (string_of "oMId" j) ≡ true)
        own = found (λ a. is_identity_of a.identity (string_of "oMId" j)) (life_at m l).awaited a kept.awaited e

    goes_answered : element_is "mType" "rSMsg" j ≡ true → Received (answered l j m)
    unfolding answered
    goes_answered marked =
        maybe_cases Received (only m) _ (awaited_by (life_at m l) (string_of "oMId" j))
        (λ e. turns u m same t this l life kept (only m) refl refl (goes_on_lem _ kept))
        (λ a e. goes_answers marked a e)

    goes_refuses : (reason : String) → Received (refuses l j m reason)
    unfolding refuses
    goes_refuses reason =
        picked Received (fails_check reason) _ _ (λ e. goes_closes u m same t this l life kept _)
        (λ e. turns u m same t this l life kept (effect m [] (refusal j reason ∷ []) [] none) refl refl (goes_on_lem _ kept))

    -- any other that no reason refuses: of a call p that answers by MessageAck, or at once
    module _ (unrefused : reason_of m l j ≡ none) (p : Past) (c : Came l j p) (acks : replies_at_once j ≡ false → Among (ack (string_of "mId" j)) (messages_of p.gave)) where
      abbrev On : Effect → Type 0
      On e = Kept u l (life_at e.leaves l) (going_on p life)

      on_happens : (i : ℕ) (o : Option Alarm) → On (happens m i o)
      unfolding happens
      on_happens i none = goes_on_lem p kept
      on_happens i (some a) = goes_on_lem p kept

      on_carried_out : On (carried_out l t j m)
      unfolding carried_out subscribe unsubscribe commands
      on_carried_out =
          picked On (is_type "Version" j) _ _
          (λ e. sets (agreed (or_else [] (common j)) (life_at m l)) m.lives p
          (accepted u l (life_at m l) life kept p lives (or_else [] (common j)) (answered_by (checked u m same l j unrefused e) c (marked u m same l j unrefused) (acks (not_at_once "Version" refl refl j e)))))
          (λ e. picked On (is_type "Watchdog" j) _ _
          (λ e. sets (with_watchdogs (now_taken (life_at m l).watchdogs) (life_at m l)) m.lives p
          (taken u l (life_at m l) life kept p lives (answered_by e c (marked u m same l j unrefused) (acks (not_at_once "Watchdog" refl refl j e)))))
          (λ e. picked On (is_type "Alarm" j) _ _ (λ e. on_happens _ _)
          (λ e. picked On (is_type "StatusSubscribe" j) _ _ (λ e. goes_on_lem p kept)
          (λ e. picked On (is_type "StatusUnsubscribe" j) _ _ (λ e. goes_on_lem p kept)
          (λ e. picked On (asks_for "CommandRequest" j) _ _ (λ e. goes_on_lem p kept) (λ e. goes_on_lem p kept))))))

    goes_replying : reason_of m l j ≡ none → (id : Bytes) → Received (replying l t id j (carried_out l t j m))
    unfolding replying
    goes_replying unrefused id =
        picked Received (replies_at_once j) _ _
        (λ o. turns u m same t this l life kept responded refl (open_carried_out m l t j l) (on_carried_out unrefused (this_past responded) (came_by responded) (λ n. not_both o n)))
        (λ o. picked Received (wants_reply done.leaves l j) _ _
        (λ w. turns u m same t this l life kept replied refl (open_carried_out m l t j l)
        (sets (awaiting id t no_record (life_at done.leaves l)) done.leaves.lives (this_past replied)
        (awaits (on_carried_out unrefused (this_past replied) (came_by replied) (λ n. first)) id t no_record tt)))
        (λ w. turns u m same t this l life kept acked_only refl (open_carried_out m l t j l) (on_carried_out unrefused (this_past acked_only) (came_by acked_only) (λ n. first))))
      where
        done : Effect
        done = carried_out l t j m

        replied : Effect
        replied =
            handing done.commands (with_life l (awaiting id t no_record (life_at done.leaves l)) done.leaves) done.issues
            (ack (string_of "mId" j) ∷ reply_message done.leaves t id j ∷ []) done.closed done.hint

        responded : Effect
        responded = handing done.commands done.leaves done.issues (included_message done.leaves t j ∷ []) done.closed done.hint

        acked_only : Effect
        acked_only = handing done.commands done.leaves done.issues (ack (string_of "mId" j) ∷ []) done.closed done.hint

    goes_received : is_ignored (life_at m l) (some j) ≡ false → (id : Bytes) → Received (receives l t id m j)
    unfolding receives
    goes_received heard id =
        picked Received (is_answer j) _ _ (λ e. goes_answered (answer_marked (life_at m l) j e heard))
        (λ e. maybe_cases Received _ _ (reason_of m l j) (λ f. goes_replying f id) (λ reason f. goes_refuses reason))

  -- a pump
  module _ (random : Bytes) (room : ℕ) where
    abbrev Pumped : Effect → Type 0
    Pumped = Goes u m same t (pump l random room) l life kept

    goes_sends : (id : Bytes) (d : Due) → Pumped (sends l t id m d)
    unfolding sends
    goes_sends id d =
        turns u m same t (pump l random room) l life kept (sends l t id m d) refl refl
        (sets (awaiting id t (sent_as m l d) (after_sending t d (life_at m l))) (mark_sent (sent_as m l d) m).lives p
        (awaits (sent u l (life_at m l) life kept p lives t d) id t (sent_as m l d) (waits u l (life_at m l) life kept p lives id m t d refl refl)))
      where
        p : Past
        p = record { call = record { time = t; act = pump l random room }; gave = outcome (sends l t id m d) }

-- ---- every call
by_link : (P : ℕ → Type 0) (k l : ℕ) → P l → ((k ≡ l → ⊥) → P k) → P k
by_link P k l own other = go (eq_or_ne k l)
  where
    go : (k ≡ l) ⊎ (k ≡ l → ⊥) → P k
    go (inl e) = rw e own
    go (inr n) = other n

module _ (u m : Machine) (same : u.setup ≡ m.setup) (t l : ℕ) (life : List Past) (kept : Kept u l (life_at m l) life) where
  abbrev After : Act → Type 0
  After act = first_of (conditions m t act) ≡ none → Goes u m same t act l life kept (effect_of m t act)

  apart_from_it : (act : Act) → is_number l (connected_by act) ≡ false → is_number l (link_of act) ≡ false → (act ≡ tick → ⊥) → After act
  apart_from_it act n o no_tick f = stays u m same t act l life kept (effect_of m t act) n (apart m t act l o (λ e. absurd (no_tick e)))

  other_than : (k : ℕ) → (k ≡ l → ⊥) → is_number l (some k) ≡ false
  other_than k n = ne_eqb l k (λ e. n (sym e))

  there : (life_at m l).connected ≡ true → life ≡ [] → ⊥
  there = kept.there

  opened : After (connect l)
  unfolding effect_of connects
  opened f = rw (eq-eqb l l refl) (set_there (fresh false) (λ k. Kept u l k (p ∷ [])) l (fresh true) m.lives (kept_opened u l p) (kept_down u l (p ∷ [])))
    where
      p : Past
      p = record { call = record { time = t; act = connect l }; gave = outcome (effect_of m t (connect l)) }

  received : (random bytes : Bytes) (room : ℕ) → After (packet l random bytes room)
  unfolding effect_of conditions
  received random bytes room f =
      maybe_cases (Goes u m same t (packet l random bytes room) l life kept) (only m) _ (read_packet bytes)
      (λ e. turns u m same t (packet l random bytes room) l life kept (only m) refl refl (goes_on_lem _ kept))
      (λ j e. goes_received u m same t l life kept (there (no_not _ down)) random bytes room j e (rw e at heard) (own_identity random))
    where
      down : not (life_at m l).connected ≡ false
      down = none_at (conditions m t (packet l random bytes room)) f (later (later (later (later first))))

      heard : is_ignored (life_at m l) (read_packet bytes) ≡ false
      heard = none_at (conditions m t (packet l random bytes room)) f (later (later (later (later (later first)))))

  pumped : (random : Bytes) (room : ℕ) → After (pump l random room)
  unfolding effect_of conditions
  pumped random room f =
      maybe_cases (Goes u m same t (pump l random room) l life kept) (only m) _ (due m l t)
      (λ e. turns u m same t (pump l random room) l life kept (only m) refl refl (goes_on_lem _ kept))
      (λ d e. goes_sends u m same t l life kept (there (no_not _ (none_at (conditions m t (pump l random room)) f (later (later (later first)))))) random room (own_identity random) d)

  pub goes : (act : Act) → After act
  unfolding effect_of
  goes (connect k) = by_link (λ k. After (connect k)) k l opened (λ n. apart_from_it (connect k) (other_than k n) (other_than k n) (λ e. let z : ◌≡◌ {A = ℕ} 0 1 = cc in omega arith))
  goes (disconnect k) =
      by_link (λ k. After (disconnect k)) k l (λ f. goes_closes u m same t (disconnect l) l life kept [])
      (λ n. apart_from_it (disconnect k) refl (other_than k n) (λ e. let z : ◌≡◌ {A = ℕ} 0 1 = cc in omega arith))
  goes (packet k random bytes room) =
      by_link (λ k. After (packet k random bytes room)) k l (received random bytes room)
      (λ n. apart_from_it (packet k random bytes room) refl (other_than k n) (λ e. let z : ◌≡◌ {A = ℕ} 0 1 = cc in omega arith))
  goes (alarm_input i active) = apart_from_it (alarm_input i active) refl refl (λ e. let z : ◌≡◌ {A = ℕ} 0 1 = cc in omega arith)
  goes (status_value i v) = apart_from_it (status_value i v) refl refl (λ e. let z : ◌≡◌ {A = ℕ} 0 1 = cc in omega arith)
  goes (aggregated_value v) = apart_from_it (aggregated_value v) refl refl (λ e. let z : ◌≡◌ {A = ℕ} 0 1 = cc in omega arith)
  goes tick = λ f. goes_ticks u m same t tick l life kept refl
  goes (pump k random room) =
      by_link (λ k. After (pump k random room)) k l (pumped random room)
      (λ n. apart_from_it (pump k random room) refl (other_than k n) (λ e. let z : ◌≡◌ {A = ℕ} 0 1 = cc in omega arith))
