-- There are as many lives as links, over every run.
-- Assumes nothing.
use Rattle.basis.proofs.Std.{ℕ, String, ◌≡◌, refl, sym, ◌∙◌, ap, Bool, false, List, [], ◌∷◌, Option, some, none, eqb, length, length-replicate, picked}
use Rattle.json_value.specs.Grammar.{Json}
use Rattle.write_message.specs.Message.{Message}
use Rattle.machine.specs.Words.{Bytes}
use Rattle.machine.specs.State.{Alarm, Awaited, Life, fresh, Setup, Start, Machine, with_life, life_at, value_at, Act, Call, Effect, only}
use Rattle.machine.specs.State.Act.{connect, disconnect, packet, alarm_input, status_value, aggregated_value, tick, pump}
use Rattle.machine.specs.Json.{read_packet, string_of, is_type, asks_for}
use Rattle.machine.specs.Life.{close, close_all, awaited_by, Due, due}
use Rattle.machine.specs.Answers.{is_answer, wants_reply, replies_at_once, reason_of, fails_check}
use Rattle.machine.specs.Items.{is_new, happens, subscribe, unsubscribe, intervals, becomes, commands, aggregates}
use Rattle.machine.specs.Effects.{connects, closes, late, ticks, own_identity, sent_as, carried, mark_sent, sends, answer_closes, settle, answers, answered, refuses, carried_out, replying, receives, effect_of}
use Rattle.machine.specs.Table.Begins.{begins}
use Rattle.machine.specs.Step.{step}
use Rattle.machine.specs.Run.{Past, Run}
use Rattle.machine.specs.Run.Run.{begun, begun_beside, next, other_starts, other_calls}
use Rattle.demand_held.proofs.Lists.{maybe_cases, length_changed}
use Rattle.demand_held.proofs.Steps.{step_done, step_refused}
use Rattle.demand_told.proofs.GreetedDemand.{by_number, same_setup}

module _ (m : Machine) where
  abbrev Sized : Machine → Type 0
  Sized k = length k.lives ≡ length m.lives

  abbrev Leaves : Effect → Type 0
  Leaves e = Sized e.leaves

  sets : (l : ℕ) (x : Life) (k : Machine) → Sized k → Sized (with_life l x k)
  sets l x k e = length_changed l (λ y. x) k.lives ∙ e

  closed : (l : ℕ) (k : Machine) → Sized k → Sized (close l k)
  unfolding close
  closed l k e = sets l (fresh false) k e

  all_closed : (ls : List ℕ) (k : Machine) → Sized k → Sized (close_all ls k)
  all_closed [] k e = e
  all_closed (l ∷ ls) k e = all_closed ls (close l k) (closed l k e)

  sized_closes : (l : ℕ) (messages : List Message) → Leaves (closes l messages m)
  unfolding closes
  sized_closes l messages = closed l m refl

  sized_happens : (i : ℕ) (o : Option Alarm) → Leaves (happens m i o)
  unfolding happens
  sized_happens i none = refl
  sized_happens i (some a) = refl

  sized_ticks : (t : ℕ) → Leaves (ticks t m)
  unfolding ticks intervals
  sized_ticks t = all_closed (late t m) m refl

  sized_sends : (l t : ℕ) (id : Bytes) (d : Due) → Leaves (sends l t id m d)
  unfolding sends
  sized_sends l t id d = sets l _ (mark_sent (sent_as m l d) m) (maybe_cases Sized m _ (carried (sent_as m l d)) (λ e. refl) (λ n e. refl))

  sized_answers : (l : ℕ) (s : Bytes) (is_ack : Bool) (a : Awaited) → Leaves (answers l s is_ack m a)
  unfolding answers
  sized_answers l s is_ack a =
      picked Leaves (answer_closes (life_at m l) is_ack a.message) _ _ (λ e. sized_closes l [])
      (λ e. sets l _ (settle l a.message m) (maybe_cases Sized m _ (carried a.message) (λ e. refl) (λ n e. refl)))

  sized_answered : (l : ℕ) (j : Json) → Leaves (answered l j m)
  unfolding answered
  sized_answered l j = maybe_cases Leaves (only m) _ (awaited_by (life_at m l) (string_of "oMId" j)) (λ e. refl) (λ a e. sized_answers l _ _ a)

  sized_refuses : (l : ℕ) (j : Json) (reason : String) → Leaves (refuses l j m reason)
  unfolding refuses
  sized_refuses l j reason = picked Leaves (fails_check reason) _ _ (λ e. sized_closes l _) (λ e. refl)

  sized_carried_out : (l t : ℕ) (j : Json) → Leaves (carried_out l t j m)
  unfolding carried_out subscribe unsubscribe commands
  sized_carried_out l t j =
      picked Leaves (is_type "Version" j) _ _ (λ e. sets l _ m refl)
      (λ e. picked Leaves (is_type "Watchdog" j) _ _ (λ e. sets l _ m refl)
      (λ e. picked Leaves (is_type "Alarm" j) _ _ (λ e. sized_happens _ _)
      (λ e. picked Leaves (is_type "StatusSubscribe" j) _ _ (λ e. refl)
      (λ e. picked Leaves (is_type "StatusUnsubscribe" j) _ _ (λ e. refl)
      (λ e. picked Leaves (asks_for "CommandRequest" j) _ _ (λ e. refl) (λ e. refl))))))

  sized_replying : (l t : ℕ) (id : Bytes) (j : Json) (e : Effect) → Leaves e → Leaves (replying l t id j e)
  unfolding replying
  sized_replying l t id j e h =
      picked Leaves (replies_at_once j) _ _ (λ o. h) (λ o. picked Leaves (wants_reply e.leaves l j) _ _ (λ w. sets l _ e.leaves h) (λ w. h))

  sized_received : (l t : ℕ) (id : Bytes) (j : Json) → Leaves (receives l t id m j)
  unfolding receives
  sized_received l t id j =
      picked Leaves (is_answer j) _ _ (λ e. sized_answered l j)
      (λ e. maybe_cases Leaves _ _ (reason_of m l j) (λ f. sized_replying l t id j _ (sized_carried_out l t j)) (λ reason f. sized_refuses l j reason))

  sized : (t : ℕ) (act : Act) → Leaves (effect_of m t act)
  unfolding effect_of connects becomes aggregates
  sized t (connect l) = sets l _ m refl
  sized t (disconnect l) = sized_closes l []
  sized t (packet l random bytes room) = maybe_cases Leaves (only m) _ (read_packet bytes) (λ e. refl) (λ j e. sized_received l t (own_identity random) j)
  sized t (alarm_input i active) = sized_happens i _
  sized t (status_value i v) = picked Leaves (is_new v (value_at m i)) _ _ (λ e. refl) (λ e. refl)
  sized t (aggregated_value v) = picked Leaves (eqb v m.aggregated) _ _ (λ e. refl) (λ e. refl)
  sized t tick = sized_ticks t
  sized t (pump l random room) = maybe_cases Leaves (only m) _ (due m l t) (λ e. refl) (λ d e. sized_sends l t (own_identity random) d)

  step_sized : (c : Call) → Sized (step m c).1
  step_sized c = by_number m c (λ e. rw (step_done m c e) (sized c.time c.act)) (λ n e. rw (step_refused m c n e))

pub run_sized : {s : Start} {h : List Past} {m : Machine} → Run s h m → length m.lives ≡ m.setup.links
run_sized {s} (begun (begins {t} a e g)) = length-replicate {A = Life} s.links (fresh false)
run_sized {s} (begun_beside (begins {t} a e g) o two) = length-replicate {A = Life} s.links (fresh false)
run_sized (other_starts r b two) = run_sized r
run_sized (other_calls r q n c) = run_sized r
run_sized (next {m} c r) = step_sized m c ∙ run_sized r ∙ ap (λ (u : Setup). u.links) (sym (same_setup r c))
