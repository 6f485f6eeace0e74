-- The links that the machine closes are the bits of the word that tells them.
-- Assumes nothing.
use Rattle.basis.proofs.Std.{ℕ, zero, suc, ◌<◌, ◌≤◌, String, ◌≡◌, refl, Bool, true, false, List, [], ◌∷◌, Option, some, none, arith, leb-false, eqb, pick, picked}
use Rattle.json_value.specs.Grammar.{Json}
use Rattle.write_message.specs.Message.{Message}
use Rattle.machine.specs.Words.{Bytes, first_of, keep, up_to}
use Rattle.machine.specs.State.{Alarm, Awaited, Machine, life_at, value_at, Act, Call, Effect, only}
use Rattle.machine.specs.State.Act.{connect, disconnect, packet, alarm_input, status_value, aggregated_value, tick, pump}
use Rattle.machine.specs.Json.{read_packet, string_of, is_type, asks_for}
use Rattle.machine.specs.Life.{is_late, awaited_by, Due, due}
use Rattle.machine.specs.Answers.{is_answer, wants_reply, replies_at_once, reason_of, fails_check}
use Rattle.machine.specs.Items.{is_new, happens, subscribe, unsubscribe, becomes, commands, aggregates}
use Rattle.machine.specs.Effects.{connects, closes, ticks, own_identity, sends, answer_closes, answers, answered, refuses, carried_out, replying, receives, effect_of}
use Rattle.machine.specs.Step.{no_such_link, conditions, step}
use Rattle.demand_held.proofs.Lists.{maybe_cases}
use Rattle.demand_held.proofs.Steps.{step_done, step_refused}
use Rattle.demand_told.specs.Life.{closed_by}
use Rattle.demand_told.proofs.GreetedDemand.{by_number}
use Rattle.refine_calls.specs.Calls.{mask_for}
use Rattle.equation.specs.Seen.{bits}

abbrev pub Same : List ℕ → Type 0
Same ls = mask_for ls ≡ bits ls

abbrev Lays : Effect → Type 0
Lays e = Same e.closed

single : (l : ℕ) → l < 4 → Same (l ∷ [])
single zero h = refl
single (suc zero) h = refl
single (suc (suc zero)) h = refl
single (suc (suc (suc zero))) h = refl
single (suc (suc (suc (suc l)))) h = absurd (omega (arith, h))

abbrev chosen : Bool → Bool → Bool → Bool → ℕ → Bool
chosen a b c d l = pick (eqb l 0) a (pick (eqb l 1) b (pick (eqb l 2) c d))

four : (a b c d : Bool) → Same (keep (chosen a b c d) (up_to 4))
four false false false false = refl
four false false false true = refl
four false false true false = refl
four false false true true = refl
four false true false false = refl
four false true false true = refl
four false true true false = refl
four false true true true = refl
four true false false false = refl
four true false false true = refl
four true false true false = refl
four true false true true = refl
four true true false false = refl
four true true false true = refl
four true true true false = refl
four true true true true = refl

several : (f : ℕ → Bool) (n : ℕ) → n ≤ 4 → Same (keep f (up_to n))
several f zero h = refl
several f (suc zero) h = four (f 0) false false false
several f (suc (suc zero)) h = four (f 0) (f 1) false false
several f (suc (suc (suc zero))) h = four (f 0) (f 1) (f 2) false
several f (suc (suc (suc (suc zero)))) h = four (f 0) (f 1) (f 2) (f 3)
several f (suc (suc (suc (suc (suc n))))) h = absurd (omega (arith, h))

-- the link on which a call closes one
abbrev Link : Act → ℕ → Type 0
Link (connect l) n = Unit {0}
Link (disconnect l) n = l < n
Link (packet l random received room) n = l < n
Link (alarm_input i active) n = Unit {0}
Link (status_value i v) n = Unit {0}
Link (aggregated_value v) n = Unit {0}
Link tick n = Unit {0}
Link (pump l random room) n = Unit {0}

module _ (m : Machine) (few : m.setup.links ≤ 4) where
  of_closes : (l : ℕ) → l < 4 → (messages : List Message) → Lays (closes l messages m)
  unfolding closes
  of_closes l h messages = single l h

  of_happens : (i : ℕ) (o : Option Alarm) → Lays (happens m i o)
  unfolding happens
  of_happens i none = refl
  of_happens i (some a) = refl

  of_ticks : (t : ℕ) → Lays (ticks t m)
  unfolding ticks
  of_ticks t = several (λ l. is_late t (life_at m l)) m.setup.links few

  of_sends : (l t : ℕ) (id : Bytes) (d : Due) → Lays (sends l t id m d)
  unfolding sends
  of_sends l t id d = refl

  module _ (l : ℕ) (h : l < 4) where
    of_answers : (s : Bytes) (is_ack : Bool) (a : Awaited) → Lays (answers l s is_ack m a)
    unfolding answers
    of_answers s is_ack a = picked Lays (answer_closes (life_at m l) is_ack a.message) _ _ (λ e. of_closes l h []) (λ e. refl)

    of_answered : (j : Json) → Lays (answered l j m)
    unfolding answered
    of_answered j = maybe_cases Lays (only m) _ (awaited_by (life_at m l) (string_of "oMId" j)) (λ e. refl) (λ a e. of_answers _ _ a)

    of_refuses : (j : Json) (reason : String) → Lays (refuses l j m reason)
    unfolding refuses
    of_refuses j reason = picked Lays (fails_check reason) _ _ (λ e. of_closes l h _) (λ e. refl)

    of_carried_out : (t : ℕ) (j : Json) → Lays (carried_out l t j m)
    unfolding carried_out subscribe unsubscribe commands
    of_carried_out t j =
        picked Lays (is_type "Version" j) _ _ (λ e. refl)
        (λ e. picked Lays (is_type "Watchdog" j) _ _ (λ e. refl)
        (λ e. picked Lays (is_type "Alarm" j) _ _ (λ e. of_happens _ _)
        (λ e. picked Lays (is_type "StatusSubscribe" j) _ _ (λ e. refl)
        (λ e. picked Lays (is_type "StatusUnsubscribe" j) _ _ (λ e. refl)
        (λ e. picked Lays (asks_for "CommandRequest" j) _ _ (λ e. refl) (λ e. refl))))))

    of_replying : (t : ℕ) (id : Bytes) (j : Json) (e : Effect) → Lays e → Lays (replying l t id j e)
    unfolding replying
    of_replying t id j e q = picked Lays (replies_at_once j) _ _ (λ w. q) (λ w. picked Lays (wants_reply e.leaves l j) _ _ (λ w. q) (λ w. q))

    of_received : (t : ℕ) (id : Bytes) (j : Json) → Lays (receives l t id m j)
    unfolding receives
    of_received t id j =
        picked Lays (is_answer j) _ _ (λ e. of_answered j)
        (λ e. maybe_cases Lays _ _ (reason_of m l j) (λ f. of_replying t id j _ (of_carried_out t j)) (λ reason f. of_refuses j reason))

  of_effect : (t : ℕ) (act : Act) → Link act m.setup.links → Lays (effect_of m t act)
  unfolding effect_of connects becomes aggregates
  of_effect t (connect l) u = refl
  of_effect t (disconnect l) u = of_closes l (omega (arith, u, few)) []
  of_effect t (packet l random bytes room) u =
      maybe_cases Lays (only m) _ (read_packet bytes) (λ e. refl) (λ j e. of_received l (omega (arith, u, few)) t (own_identity random) j)
  of_effect t (alarm_input i active) u = of_happens i _
  of_effect t (status_value i v) u = picked Lays (is_new v (value_at m i)) _ _ (λ e. refl) (λ e. refl)
  of_effect t (aggregated_value v) u = picked Lays (eqb v m.aggregated) _ _ (λ e. refl) (λ e. refl)
  of_effect t tick u = of_ticks t
  of_effect t (pump l random room) u = maybe_cases Lays (only m) _ (due m l t) (λ e. refl) (λ d e. of_sends l t (own_identity random) d)

  -- a done call is of a configured link
  not_first : (b : Bool) (rest : Option ℕ) → pick b (some 2) rest ≡ none → b ≡ false
  not_first false rest e = refl
  not_first true rest e = absurd (let z : ◌≡◌ {A = ℕ} 0 1 = cc in omega arith)

  below : (l : ℕ) → no_such_link m l ≡ false → l < m.setup.links
  below l e = leb-false m.setup.links l e

  configured : (t : ℕ) (act : Act) → first_of (conditions m t act) ≡ none → Link act m.setup.links
  unfolding conditions
  configured t (connect l) e = tt
  configured t (disconnect l) e = below l (not_first (no_such_link m l) _ e)
  configured t (packet l random bytes room) e = below l (not_first (no_such_link m l) _ e)
  configured t (alarm_input i active) e = tt
  configured t (status_value i v) e = tt
  configured t (aggregated_value v) e = tt
  configured t tick e = tt
  configured t (pump l random room) e = tt

  pub closed_links : (c : Call) → Same (closed_by (step m c).0)
  closed_links c =
      by_number m c (λ e. rw (step_done m c e) (of_effect c.time c.act (configured c.time c.act e))) (λ n e. rw (step_refused m c n e) refl)
