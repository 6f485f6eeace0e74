-- A held record is marked sent where its link awaits an answer for it, over every run.
-- Assumes nothing.
use Rattle.basis.proofs.Std.{ℕ, ◌<◌, String, ◌≡◌, refl, ◌∙◌, Bool, true, false, List, [], ◌∷◌, map, Option, some, none, ◌⊎◌, inl, inr, eqb, arith, not-true, picked}
use Rattle.basis.specs.Lists.Among.{first, later}
use Rattle.basis.proofs.Among.{among_none}
use Rattle.json_value.specs.Grammar.{Json}
use Rattle.write_message.specs.Message.{Message}
use Rattle.machine.specs.Words.{Bytes, but_first, changed, first_of}
use Rattle.machine.specs.State.{Alarm, issued_for, Sent, Awaited, Life, fresh, Start, Machine, with_held, life_at, value_at, Act, Effect, only}
use Rattle.machine.specs.State.Sent.{own_version, own_watchdog, no_record, the_record}
use Rattle.machine.specs.State.Act.{connect, disconnect, packet, alarm_input, status_value, aggregated_value, tick, pump}
use Rattle.machine.specs.Table.Begins.{begins}
use Rattle.machine.specs.Json.{read_packet, string_of, is_type, asks_for, is_identity_of}
use Rattle.machine.specs.Life.{close, close_all, awaited_by, awaiting, answered_to, Due, due}
use Rattle.machine.specs.Life.Due.{the_version, the_watchdog, the_aggregated, the_alarm, the_held}
use Rattle.machine.specs.Answers.{is_answer, wants_reply, replies_at_once, reason_of, fails_check}
use Rattle.machine.specs.Items.{is_new, happens, subscribe, unsubscribe, intervals, becomes, commands, aggregates}
use Rattle.machine.specs.Pool.{settled, marked}
use Rattle.machine.specs.Effects.{connects, closes, late, ticks, own_identity, due_message, sent_as, carried, after_sending, sends, answer_closes, acknowledges, answers, answered, refuses, carried_out, replying, receives, effect_of}
use Rattle.machine.specs.Step.{conditions}
use Rattle.machine.specs.Run.{Past, Run}
use Rattle.machine.specs.Run.Run.{begun, begun_beside, next, other_starts, other_calls}
use Rattle.demand_held.specs.Held.{IsHeld}
use Rattle.demand_held.specs.Held.IsHeld.{held}
use Rattle.demand_held.proofs.Lists.{maybe_cases}
use Rattle.demand_held.proofs.Good.{Rising}
use Rattle.demand_held.proofs.Steps.{laid, step_done, step_refused}
use Rattle.demand_held.proofs.Shrunk.{shrunk_among}
use Rattle.demand_held.proofs.Demand.{run_sound, other_leaves}
use Rattle.demand_told.proofs.Replies.{none_at}
use Rattle.demand_told.proofs.Tests.{no_not}
use Rattle.demand_told.proofs.Lives.{all_same}
use Rattle.demand_told.proofs.GreetedDemand.{by_number}
use Rattle.demand_carried.specs.Marked.{Awaits, DemandMarked}
use Rattle.demand_carried.proofs.Sent.{Tells, due_tells}
use Rattle.demand_carried.proofs.Goes.{ack_awaited, sending_awaited}
use Rattle.demand_carried.proofs.Marks.{awaits_none, awaits_more, awaits_old, awaits_left, awaits_but, Marks, marks_life, marks_opened, marks_closed, marks_sent, marks_settled, marks_issued}

abbrev Marked : Machine → Type 0
Marked m = Marks m.lives m.pool

-- ---- what a message carries
is_record : {n : ℕ} (x : Sent) → carried x ≡ some n → x ≡ the_record n
is_record own_version e = absurd (let z : ◌≡◌ {A = ℕ} 0 1 = cc in omega arith)
is_record own_watchdog e = absurd (let z : ◌≡◌ {A = ℕ} 0 1 = cc in omega arith)
is_record no_record e = absurd (let z : ◌≡◌ {A = ℕ} 0 1 = cc in omega arith)
is_record (the_record n) e = cc

no_record_lem : {n : ℕ} {P : Type 0} (x : Sent) → carried x ≡ none → x ≡ the_record n → P
no_record_lem {n} x e f = absurd (let g : carried x ≡ some n = rw f in let z : ◌≡◌ {A = ℕ} 0 1 = cc in omega arith)

ack_connected : (is_ack : Bool) (message : Sent) (k : Life) → (acknowledges is_ack message k).connected ≡ k.connected
ack_connected true own_version k = refl
ack_connected false own_version k = refl
ack_connected true own_watchdog k = refl
ack_connected false own_watchdog k = refl
ack_connected is_ack no_record k = refl
ack_connected is_ack (the_record n) k = refl

sending_connected : (t : ℕ) (d : Due) (k : Life) → (after_sending t d k).connected ≡ k.connected
sending_connected t the_version k = refl
sending_connected t the_watchdog k = refl
sending_connected t the_aggregated k = refl
sending_connected t (the_alarm i) k = refl
sending_connected t (the_held h) k = refl

-- ---- closing
marked_closed : (l : ℕ) (m : Machine) → Marked m → Marked (close l m)
unfolding close
marked_closed l m a = marks_closed a l

marked_all : (ls : List ℕ) (m : Machine) → Marked m → Marked (close_all ls m)
marked_all [] m a = a
marked_all (l ∷ ls) m a = marked_all ls (close l m) (marked_closed l m a)

module _ (m : Machine) (a : Marked m) where
  abbrev On : Effect → Type 0
  On e = Marked e.leaves

  on_closes : (l : ℕ) (messages : List Message) → On (closes l messages m)
  unfolding closes
  on_closes l messages = marked_closed l m a

  on_ticks : (t : ℕ) → On (ticks t m)
  unfolding ticks intervals
  on_ticks t = marked_all (late t m) m a

  on_happens : (i : ℕ) (o : Option Alarm) → On (happens m i o)
  unfolding happens
  on_happens i none = a
  on_happens i (some x) = a

  -- ---- a pump
  module _ (l t : ℕ) (id : Bytes) (d : Due) (e : due m l t ≡ some d) (connected : (life_at m l).connected ≡ true) (rising : Rising m.pool.next 0 m.pool.held) where
    abbrev life_after : Life
    life_after = awaiting id t (sent_as m l d) (after_sending t d (life_at m l))

    abbrev this : Awaited
    this = record { identity = id; time = t; message = sent_as m l d }

    sends_none : carried (sent_as m l d) ≡ none → Marks (changed l (λ y. life_after) m.lives) m.pool
    sends_none f =
        marks_life a l life_after (sending_connected t d (life_at m l))
        (λ n w. awaits_old (life_at m l).awaited this f (rw (sending_awaited t d (life_at m l)) at w))
        (λ n w. rw (sending_awaited t d (life_at m l)) (awaits_more (this ∷ []) w))

    sends_record : (n : ℕ) → carried (sent_as m l d) ≡ some n → Tells m l n id (due_message m t id d)
        → Marks (changed l (λ y. life_after) m.lives) (with_held (map (marked n) m.pool.held) m).pool
    sends_record n f tells = go tells.held
      where
        go : IsHeld (issued_for l tells.content) n m.pool.held → Marks (changed l (λ y. life_after) m.lives) (with_held (map (marked n) m.pool.held) m).pool
        go (held {h = y} i own same number) =
            marks_sent a l n life_after this connected (sending_connected t d (life_at m l) ∙ connected) (rw (sending_awaited t d (life_at m l)))
            (is_record (sent_as m l d) f) y i own number rising

    on_sends : On (sends l t id m d)
    unfolding sends
    on_sends =
        maybe_cases (λ (k : Machine). Marks (changed l (λ y. life_after) k.lives) k.pool) m _ (carried (sent_as m l d))
        sends_none (λ n f. sends_record n f (due_tells m l t id d e n f))

  -- ---- a packet
  module _ (l t : ℕ) (id : Bytes) (j : Json) where
    module _ (b : Awaited) (found : awaited_by (life_at m l) (string_of "oMId" j) ≡ some b) where
      abbrev answered_life : Life
      answered_life = answered_to (string_of "oMId" j) (acknowledges (is_type "MessageAck" j) b.message (life_at m l))

      abbrev its : Awaited → Bool
      its x = is_identity_of x.identity (string_of "oMId" j)

      answers_none : carried b.message ≡ none → Marks (changed l (λ y. answered_life) m.lives) m.pool
      answers_none f =
          marks_life a l answered_life (ack_connected (is_type "MessageAck" j) b.message (life_at m l))
          (λ n w. awaits_left its (life_at m l).awaited (rw (ack_awaited (is_type "MessageAck" j) b.message (life_at m l)) at w))
          (λ n w. rw (ack_awaited (is_type "MessageAck" j) b.message (life_at m l)) (go n (awaits_but its (life_at m l).awaited b found w)))
        where
          go : (n : ℕ) → (b.message ≡ the_record n) ⊎ Awaits n (but_first its (life_at m l).awaited) → Awaits n (but_first its (life_at m l).awaited)
          go n (inl q) = no_record_lem b.message f q
          go n (inr w) = w

      answers_record : (n : ℕ) → carried b.message ≡ some n → Marks (changed l (λ y. answered_life) m.lives) (with_held (settled l n m.pool.held) m).pool
      answers_record n f =
          marks_settled a l n answered_life b its (ack_connected (is_type "MessageAck" j) b.message (life_at m l)) found (is_record b.message f)
          (rw (ack_awaited (is_type "MessageAck" j) b.message (life_at m l)))

      on_answers : On (answers l (string_of "oMId" j) (is_type "MessageAck" j) m b)
      unfolding answers
      on_answers =
          picked On (answer_closes (life_at m l) (is_type "MessageAck" j) b.message) _ _
          (λ f. on_closes l [])
          (λ f. maybe_cases (λ (k : Machine). Marks (changed l (λ y. answered_life) k.lives) k.pool) m _ (carried b.message) answers_none answers_record)

    on_answered : On (answered l j m)
    unfolding answered
    on_answered = maybe_cases On (only m) _ (awaited_by (life_at m l) (string_of "oMId" j)) (λ e. a) on_answers

    on_refuses : (reason : String) → On (refuses l j m reason)
    unfolding refuses
    on_refuses reason = picked On (fails_check reason) _ _ (λ e. on_closes l _) (λ e. a)

    on_carried_out : On (carried_out l t j m)
    unfolding carried_out subscribe unsubscribe commands
    on_carried_out =
        picked On (is_type "Version" j) _ _ (λ e. marks_life a l _ refl (λ n w. w) (λ n w. w))
        (λ e. picked On (is_type "Watchdog" j) _ _ (λ e. marks_life a l _ refl (λ n w. w) (λ n w. w))
        (λ e. picked On (is_type "Alarm" j) _ _ (λ e. on_happens _ _)
        (λ e. picked On (is_type "StatusSubscribe" j) _ _ (λ e. a)
        (λ e. picked On (is_type "StatusUnsubscribe" j) _ _ (λ e. a)
        (λ e. picked On (asks_for "CommandRequest" j) _ _ (λ e. a) (λ e. a))))))

    on_replying : (e : Effect) → On e → On (replying l t id j e)
    unfolding replying
    on_replying e b =
        picked On (replies_at_once j) _ _ (λ f. b)
        (λ f. picked On (wants_reply e.leaves l j) _ _
        (λ f. marks_life b l _ refl (λ n w. awaits_old (life_at e.leaves l).awaited _ refl w) (λ n w. awaits_more _ w))
        (λ f. b))

    on_received : On (receives l t id m j)
    unfolding receives
    on_received =
        picked On (is_answer j) _ _ (λ e. on_answered)
        (λ e. maybe_cases On _ _ (reason_of m l j) (λ f. on_replying (carried_out l t j m) on_carried_out) (λ reason f. on_refuses reason))

  -- ---- every call
  module _ (rising : Rising m.pool.next 0 m.pool.held) (t : ℕ) where
    goes : (act : Act) → first_of (conditions m t act) ≡ none → On (effect_of m t act)
    unfolding effect_of conditions connects becomes aggregates
    goes (connect l) f = marks_opened a l (not-true (life_at m l).connected (no_not _ (none_at (conditions m t (connect l)) f (later (later first)))))
    goes (disconnect l) f = on_closes l []
    goes (packet l random bytes room) f = maybe_cases On (only m) _ (read_packet bytes) (λ e. a) (λ j e. on_received l t (own_identity random) j)
    goes (alarm_input i active) f = on_happens i _
    goes (status_value i v) f = picked On (is_new v (value_at m i)) _ _ (λ e. a) (λ e. a)
    goes (aggregated_value v) f = picked On (eqb v m.aggregated) _ _ (λ e. a) (λ e. a)
    goes tick f = on_ticks t
    goes (pump l random room) f =
        maybe_cases On (only m) _ (due m l t) (λ e. a)
        (λ d e. on_sends l t (own_identity random) d e (no_not _ (none_at (conditions m t (pump l random room)) f (later (later (later first))))) rising)

run_marked : {s : Start} {h : List Past} {m : Machine} → Run s h m → Marked m
run_marked {s} (begun (begins {t} x e g)) =
    record {
      up = λ x i e. among_none i;
      below = λ l n. all_same (fresh false) (λ (k : Life). Awaits n k.awaited → n < s.first) s.links l awaits_none;
      down = λ l x i w. among_none i;
      quiet = λ l n. all_same (fresh false) (λ (k : Life). k.connected ≡ false → Awaits n k.awaited → ⊥) s.links l (λ e. awaits_none);
    }
run_marked {s} (begun_beside (begins {t} x e g) o two) =
    record {
      up = λ x i e. among_none i;
      below = λ l n. all_same (fresh false) (λ (k : Life). Awaits n k.awaited → n < s.first) s.links l awaits_none;
      down = λ l x i w. among_none i;
      quiet = λ l n. all_same (fresh false) (λ (k : Life). k.connected ≡ false → Awaits n k.awaited → ⊥) s.links l (λ e. awaits_none);
    }
run_marked (other_starts r b two) = let a = run_marked r in record { up = a.up; below = a.below; down = a.down; quiet = a.quiet }
run_marked (other_calls r q n c) =
    let a = run_marked r in
    record {
      up = λ x i e. a.up x (shrunk_among (other_leaves q n c) i) e;
      below = a.below;
      down = λ l x i w. a.down l x (shrunk_among (other_leaves q n c) i) w;
      quiet = a.quiet;
    }
run_marked (next {m = m} c r) =
    by_number m c
    (λ e. rw (step_done m c e) (marks_issued (laid m c).issues (laid m c).leaves.pool (goes m (run_marked r) (run_sound r).good.own.rising c.time c.act e)))
    (λ n e. rw (step_refused m c n e) (run_marked r))

pub demand_marked : DemandMarked
demand_marked =
    record {
      marked_is_awaited = λ s h m r. (run_marked r).up;
      awaited_is_marked = λ s h m r l x i w. (run_marked r).down l x i w;
    }
