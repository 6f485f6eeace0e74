-- What each call writes.
-- Assumes nothing.
use Rattle.basis.proofs.Std.{ℕ, String, ◌≡◌, refl, ap, Bool, true, false, not, [], ◌∷◌, Option, some, none, arith, both, bit, picked, not_both}
use Rattle.json_value.specs.Grammar.{Json}
use Rattle.table_whole.specs.Table.{Table}
use Rattle.write_message.specs.Message.{Message}
use Rattle.machine.specs.Words.{Bytes}
use Rattle.machine.specs.State.{Content, Awaited, Machine, life_at, Effect, only}
use Rattle.machine.specs.State.Content.{of_alarm, of_status, of_aggregated}
use Rattle.machine.specs.Json.{string_of, is_type, is_included}
use Rattle.machine.specs.Life.{is_greeting, is_beating, is_up, Due, due_up, due, awaited_by}
use Rattle.machine.specs.Life.Due.{the_version, the_watchdog, the_aggregated, the_alarm, the_held}
use Rattle.machine.specs.Answers.{is_answer, wants_reply, replies_at_once, reason_of, fails_check}
use Rattle.machine.specs.Messages.{record_message}
use Rattle.machine.specs.Effects.{answer_closes, closes, due_message, answers, answered, refuses, carried_out, reply_message, replying, receives}
use Rattle.demand_held.proofs.Lists.{maybe_cases}
use Rattle.demand_told.specs.Demand.{is_told, is_an_answer, OneAnswer}
use Rattle.demand_told.specs.Demand.OneAnswer.{acked, not_acked_lem, responded}

-- ---- pump
record_no_answer : (t : Table) (id : Bytes) (x : Content) → is_an_answer (record_message t id x) ≡ false
record_no_answer t id (of_alarm i a) = refl
record_no_answer t id (of_status i v old time) = refl
record_no_answer t id (of_aggregated v time) = refl

pub due_no_answer : (m : Machine) (t : ℕ) (id : Bytes) (d : Due) → is_an_answer (due_message m t id d) ≡ false
due_no_answer m t id the_version = refl
due_no_answer m t id the_watchdog = refl
due_no_answer m t id the_aggregated = refl
due_no_answer m t id (the_alarm i) = refl
due_no_answer m t id (the_held h) = record_no_answer m.setup.table id h.content

-- what is due to be told is due in Up
abbrev ToldUp : Machine → ℕ → ℕ → Bytes → Option Due → Type 0
ToldUp m l t id o = (d : Due) → o ≡ some d → is_told (due_message m t id d) ≡ true → is_up (life_at m l) ≡ true

pub due_up_lem : (m : Machine) (l t : ℕ) (id : Bytes) → ToldUp m l t id (due m l t)
unfolding due
due_up_lem m l t id =
    picked (ToldUp m l t id) (both (is_greeting (life_at m l)) (not (life_at m l).versions.sent)) (some the_version) _
    (λ e d f u. silent the_version d f refl u)
    (λ e. picked (ToldUp m l t id) (both (is_beating (life_at m l)) (not (life_at m l).watchdogs.sent)) (some the_watchdog) _
    (λ e d f u. silent the_watchdog d f refl u)
    (λ e. picked (ToldUp m l t id) (is_up (life_at m l)) (due_up m l t (life_at m l)) none (λ up d f u. up) (λ n d f u. absurd (nothing d f))))
  where
    same : (x d : Due) → some x ≡ some d → x ≡ d
    same x d f = cc

    silent : (x d : Due) → some x ≡ some d → is_told (due_message m t id x) ≡ false → is_told (due_message m t id d) ≡ true → is_up (life_at m l) ≡ true
    silent x d f not_told is-told = not_both is-told (rw (same x d f) at not_told)

    nothing : (d : Due) → none ≡ some d → ⊥
    nothing d f = let z : ◌≡◌ {A = ℕ} 0 1 = cc in omega arith

-- ---- packet: an answer writes nothing
abbrev Quiet : Effect → Type 0
Quiet e = e.messages ≡ []

quiet_answers : (l : ℕ) (s : Bytes) (is_ack : Bool) (m : Machine) (a : Awaited) → Quiet (answers l s is_ack m a)
unfolding answers closes
quiet_answers l s is_ack m a = picked Quiet (answer_closes (life_at m l) is_ack a.message) _ _ (λ e. refl) (λ e. refl)

pub quiet_answered : (l : ℕ) (j : Json) (m : Machine) → Quiet (answered l j m)
unfolding answered
quiet_answered l j m = maybe_cases Quiet (only m) _ (awaited_by (life_at m l) (string_of "oMId" j)) (λ e. refl) (λ a e. quiet_answers l _ _ m a)

-- ---- packet: any other is answered once
abbrev Once : Json → Effect → Type 0
Once j e = OneAnswer j e.messages

once_refuses : (l : ℕ) (j : Json) (m : Machine) (reason : String) → Once j (refuses l j m reason)
unfolding refuses closes
once_refuses l j m reason = picked (Once j) (fails_check reason) _ _ (λ e. not_acked_lem refl) (λ e. not_acked_lem refl)

reply_told : (m : Machine) (t : ℕ) (id : Bytes) (j : Json) → is_an_answer (reply_message m t id j) ≡ false
reply_told m t id j =
    picked (λ (w : Message). is_an_answer w ≡ false) (is_type "Alarm" j) _ _ (λ e. refl)
    (λ e. picked (λ (w : Message). is_an_answer w ≡ false) (is_type "AggregatedStatusRequest" j) _ _ (λ f. refl)
    (λ f. picked (λ (w : Message). is_an_answer w ≡ false) (is_type "CommandRequest" j) _ _ (λ g. refl) (λ g. refl)))

once_replying : (l t : ℕ) (id : Bytes) (j : Json) (e : Effect) → Once j (replying l t id j e)
unfolding replying
once_replying l t id j e =
    picked (Once j) (replies_at_once j) _ _
    (λ o. picked (λ (w : Message). OneAnswer j (w ∷ [])) (is_included "CommandRequest" j) _ _ (λ c. responded o) (λ c. responded o))
    (λ o. picked (Once j) (wants_reply e.leaves l j) _ _
    (λ w. acked o (omega (arith, ap bit (reply_told e.leaves t id j))))
    (λ w. acked o refl))

pub once_received : (l t : ℕ) (id : Bytes) (m : Machine) (j : Json) → is_answer j ≡ false → Once j (receives l t id m j)
unfolding receives
once_received l t id m j other =
    picked (Once j) (is_answer j) _ _ (λ e. not_both e other)
    (λ e. maybe_cases (Once j) _ _ (reason_of m l j) (λ f. once_replying l t id j (carried_out l t j m)) (λ reason f. once_refuses l j m reason))

pub quiet_received : (l t : ℕ) (id : Bytes) (m : Machine) (j : Json) → is_answer j ≡ true → Quiet (receives l t id m j)
unfolding receives
quiet_received l t id m j is = picked Quiet (is_answer j) _ _ (λ e. quiet_answered l j m) (λ e. not_both is e)
