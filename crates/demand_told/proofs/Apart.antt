-- A call of another link, or of none, leaves a link's life as it is, and does not name it closed; but a tick may.
-- Assumes nothing.
use Rattle.basis.proofs.Std.{ℕ, String, ◌≡◌, refl, ◌∙◌, Bool, false, List, [], Option, some, none, eqb, picked}
use Rattle.json_value.specs.Grammar.{Json}
use Rattle.write_message.specs.Message.{Message}
use Rattle.machine.specs.Words.{Bytes, is_number, any}
use Rattle.machine.specs.State.{Alarm, Sent, Awaited, Life, fresh, Machine, with_life, life_at, value_at, Act, Effect, effect, only}
use Rattle.machine.specs.State.Act.{connect, disconnect, packet, alarm_input, status_value, aggregated_value, tick, pump}
use Rattle.machine.specs.Json.{read_packet, string_of, is_type, asks_for}
use Rattle.machine.specs.Life.{awaited_by, awaiting, answered_to, Due, due}
use Rattle.machine.specs.Answers.{is_answer, wants_reply, replies_at_once, reason_of, fails_check}
use Rattle.machine.specs.Items.{is_new, happens, subscribe, unsubscribe, intervals, becomes, commands, aggregates}
use Rattle.machine.specs.Effects.{connects, closes, late, ticks, own_identity, sent_as, carried, after_sending, mark_sent, sends, answer_closes, acknowledges, settle, answers, answered, refuses, carried_out, replying, receives, effect_of}
use Rattle.demand_held.proofs.Lists.{maybe_cases}
use Rattle.demand_told.specs.Demand.{link_of}
use Rattle.demand_told.proofs.Lives.{set_other, not_named, apart_from, closed_other, all_other}

-- what the pool's marks are does not show in a life
pub mark_lives : (message : Sent) (m : Machine) → (mark_sent message m).lives ≡ m.lives
mark_lives message m = maybe_cases (λ (k : Machine). k.lives ≡ m.lives) m _ (carried message) (λ e. refl) (λ n e. refl)

pub settle_lives : (k : ℕ) (message : Sent) (m : Machine) → (settle k message m).lives ≡ m.lives
settle_lives k message m = maybe_cases (λ (k : Machine). k.lives ≡ m.lives) m _ (carried message) (λ e. refl) (λ n e. refl)

module _ (m : Machine) (l : ℕ) where
  pub record Apart (e : Effect) : Type 0 where
    pub life : life_at e.leaves l ≡ life_at m l
    pub unnamed : any (eqb l) e.closed ≡ false

  apart_happens : (i : ℕ) (o : Option Alarm) → Apart (happens m i o)
  unfolding happens
  apart_happens i none = record { life = refl; unnamed = refl }
  apart_happens i (some a) = record { life = refl; unnamed = refl }

  pub apart_tick : (t : ℕ) → any (eqb l) (late t m) ≡ false → Apart (ticks t m)
  unfolding ticks intervals
  apart_tick t e = record { life = all_other l (late t m) m e; unnamed = e }

  -- ---- calls of link k
  module _ (k : ℕ) (other : k ≡ l → ⊥) where
    apart_closes : (messages : List Message) → Apart (closes k messages m)
    unfolding closes
    apart_closes messages = record { life = closed_other k l m other; unnamed = not_named k l other }

    apart_sets : (x : Life) (n : Machine) (messages : List Message) (hint : Option ℕ) → life_at n l ≡ life_at m l → Apart (effect (with_life k x n) [] messages [] hint)
    apart_sets x n messages hint e = record { life = set_other (fresh false) k l x n.lives other ∙ e; unnamed = refl }

    apart_answers : (s : Bytes) (is_ack : Bool) (a : Awaited) → Apart (answers k s is_ack m a)
    unfolding answers
    apart_answers s is_ack a =
        picked Apart (answer_closes (life_at m k) is_ack a.message) _ _ (λ e. apart_closes [])
        (λ e. apart_sets (answered_to s (acknowledges is_ack a.message (life_at m k))) (settle k a.message m) [] none (rw (settle_lives k a.message m)))

    apart_answered : (j : Json) → Apart (answered k j m)
    unfolding answered
    apart_answered j =
        maybe_cases Apart (only m) _ (awaited_by (life_at m k) (string_of "oMId" j)) (λ e. record { life = refl; unnamed = refl }) (λ a e. apart_answers _ _ a)

    apart_refuses : (j : Json) (reason : String) → Apart (refuses k j m reason)
    unfolding refuses
    apart_refuses j reason = picked Apart (fails_check reason) _ _ (λ e. apart_closes _) (λ e. record { life = refl; unnamed = refl })

    apart_carried_out : (t : ℕ) (j : Json) → Apart (carried_out k t j m)
    unfolding carried_out subscribe unsubscribe commands
    apart_carried_out t j =
        picked Apart (is_type "Version" j) _ _ (λ e. apart_sets _ m [] none refl)
        (λ e. picked Apart (is_type "Watchdog" j) _ _ (λ e. apart_sets _ m [] _ refl)
        (λ e. picked Apart (is_type "Alarm" j) _ _ (λ e. apart_happens _ _)
        (λ e. picked Apart (is_type "StatusSubscribe" j) _ _ (λ e. record { life = refl; unnamed = refl })
        (λ e. picked Apart (is_type "StatusUnsubscribe" j) _ _ (λ e. record { life = refl; unnamed = refl })
        (λ e. picked Apart (asks_for "CommandRequest" j) _ _ (λ e. record { life = refl; unnamed = refl }) (λ e. record { life = refl; unnamed = refl }))))))

    apart_replying : (t : ℕ) (id : Bytes) (j : Json) (e : Effect) → Apart e → Apart (replying k t id j e)
    unfolding replying
    apart_replying t id j e a =
        picked Apart (replies_at_once j) _ _ (λ o. record { life = a.life; unnamed = a.unnamed })
        (λ o. picked Apart (wants_reply e.leaves k j) _ _
        (λ w. record { life = set_other (fresh false) k l _ e.leaves.lives other ∙ a.life; unnamed = a.unnamed })
        (λ w. record { life = a.life; unnamed = a.unnamed }))

    apart_received : (t : ℕ) (id : Bytes) (j : Json) → Apart (receives k t id m j)
    unfolding receives
    apart_received t id j =
        picked Apart (is_answer j) _ _ (λ e. apart_answered j)
        (λ e. maybe_cases Apart _ _ (reason_of m k j) (λ f. apart_replying t id j (carried_out k t j m) (apart_carried_out t j)) (λ reason f. apart_refuses j reason))

    apart_sends : (t : ℕ) (id : Bytes) (d : Due) → Apart (sends k t id m d)
    unfolding sends
    apart_sends t id d =
        apart_sets (awaiting id t (sent_as m k d) (after_sending t d (life_at m k))) (mark_sent (sent_as m k d) m) _ none (rw (mark_lives (sent_as m k d) m))

-- ---- every call
pub apart : (m : Machine) (t : ℕ) (act : Act) (l : ℕ) → is_number l (link_of act) ≡ false → (act ≡ tick → any (eqb l) (late t m) ≡ false) → Apart m l (effect_of m t act)
unfolding effect_of connects becomes aggregates
apart m t (connect k) l n late = apart_sets m l k (apart_from k l n) _ m [] none refl
apart m t (disconnect k) l n late = apart_closes m l k (apart_from k l n) []
apart m t (packet k random bytes room) l n late =
    maybe_cases (Apart m l) (only m) _ (read_packet bytes) (λ e. record { life = refl; unnamed = refl })
    (λ j e. apart_received m l k (apart_from k l n) t (own_identity random) j)
apart m t (alarm_input i active) l n late = apart_happens m l i _
apart m t (status_value i v) l n late =
    picked (Apart m l) (is_new v (value_at m i)) _ _ (λ e. record { life = refl; unnamed = refl }) (λ e. record { life = refl; unnamed = refl })
apart m t (aggregated_value v) l n late =
    picked (Apart m l) (eqb v m.aggregated) _ _ (λ e. record { life = refl; unnamed = refl }) (λ e. record { life = refl; unnamed = refl })
apart m t tick l n late = apart_tick m l t (late refl)
apart m t (pump k random room) l n late =
    maybe_cases (Apart m l) (only m) _ (due m k t) (λ e. record { life = refl; unnamed = refl }) (λ d e. apart_sends m l k (apart_from k l n) t (own_identity random) d)
