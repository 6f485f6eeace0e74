-- Each call leaves and issues what can be told.
-- Assumes nothing.
use Rattle.basis.proofs.Std.{ℕ, ◌≤◌, ◌<◌, String, ◌≡◌, Bool, true, false, not, List, [], ◌∷◌, Option, some, none, eqb, ℤ, length, arith, eqb-true, leb-false, pick, both, picked, both_true}
use Rattle.basis.specs.Lists.Among.{first}
use Rattle.answer.specs.Times.{last_time}
use Rattle.json_value.specs.Grammar.{Json}
use Rattle.number.specs.Signed.{Signed32}
use Rattle.write_message.specs.Message.{Message}
use Rattle.machine.specs.Words.{Bytes, alike, is_some, or_else, up_to, first_of}
use Rattle.machine.specs.State.{Alarm, alarm_of, Subscription, issued_for, Sent, Awaited, fresh, Machine, life_at, alarm_at, value_at, Act, Effect, effect, only}
use Rattle.machine.specs.State.Event.{Issue}
use Rattle.machine.specs.State.Content.{of_alarm, of_aggregated}
use Rattle.machine.specs.State.Act.{connect, disconnect, packet, alarm_input, status_value, aggregated_value, tick, pump}
use Rattle.machine.specs.Json.{read_packet, string_of, entries_of, element_is, is_type, asks_for}
use Rattle.machine.specs.Life.{unsent, close, close_all, awaited_by, Due, due}
use Rattle.machine.specs.Pool.{marked, is_for}
use Rattle.machine.specs.Answers.{is_answer, alarm_asked, status_asked, wants_reply, replies_at_once, reason_of, fails_check}
use Rattle.machine.specs.Items.{with_input, ordered, is_silent, told, is_of, status_for, update, number_asked, upwards, is_time, is_new, happens, subscribe, unsubscribe, intervals, becomes, commands, aggregates}
use Rattle.machine.specs.Effects.{connects, closes, late, ticks, own_identity, sent_as, carried, mark_sent, sends, answer_closes, settle, answers, answered, refuses, carried_out, replying, receives, effect_of}
use Rattle.machine.specs.Step.{conditions}
use Rattle.demand_held.proofs.Lists.{maybe_cases, Each, each_map, each_of, each_keep, each_kept, each_flat, each_below}
use Rattle.demand_held.proofs.Lists.Each.{no_more, one_more}
use Rattle.demand_told.proofs.Replies.{none_at}
use Rattle.demand_told.proofs.Tests.{no_not}
use Rattle.demand_told.specs.Typed.{Typed}
use Rattle.demand_told.proofs.Sane.{tells, IssuedOf, Sane, value_formed, sane_life, sane_subscriptions, sane_held, sane_alarm, sane_status, sane_aggregated, Lays}
use Rattle.demand_told.proofs.Found.{alarm_there, status_there, alarm_known, statuses_known}

silent : {m : Machine} {messages : List Message} {closed : List ℕ} {hint : Option ℕ} → Sane m → Lays (effect m [] messages closed hint)
silent s = record { sane = s; issues = no_more }

-- ---- the pool before issuing
module _ {m : Machine} (s : Sane m) where
  closed_sane : (l : ℕ) → Sane (close l m)
  unfolding close
  closed_sane l = sane_held (sane_life s l (fresh false)) _ (each_map (unsent l) (λ h p. p) s.held)

  marked_sane : (message : Sent) → Sane (mark_sent message m)
  marked_sane message = maybe_cases Sane m _ (carried message) (λ e. s) (λ n e. sane_held s _ (each_map (marked n) (λ h p. p) s.held))

  settled_sane : (l : ℕ) (message : Sent) → Sane (settle l message m)
  settled_sane l message = maybe_cases Sane m _ (carried message) (λ e. s) (λ n e. sane_held s _ (each_keep (λ h. not (both (is_for l h) (eqb h.sequence n))) s.held))

  lays_closes : (l : ℕ) (messages : List Message) → Lays (closes l messages m)
  unfolding closes
  lays_closes l messages = silent (closed_sane l)

  lays_sends : (l t : ℕ) (id : Bytes) (d : Due) → Lays (sends l t id m d)
  unfolding sends
  lays_sends l t id d = silent (sane_life (marked_sane (sent_as m l d)) l _)

  lays_answers : (l : ℕ) (o : Bytes) (is_ack : Bool) (a : Awaited) → Lays (answers l o is_ack m a)
  unfolding answers
  lays_answers l o is_ack a =
      picked Lays (answer_closes (life_at m l) is_ack a.message) _ _ (λ e. lays_closes l []) (λ e. silent (sane_life (settled_sane l a.message) l _))

  lays_answered : (l : ℕ) (j : Json) → Lays (answered l j m)
  unfolding answered
  lays_answered l j = maybe_cases Lays (only m) _ (awaited_by (life_at m l) (string_of "oMId" j)) (λ e. silent s) (λ a e. lays_answers l _ _ a)

  lays_refuses : (l : ℕ) (j : Json) (reason : String) → Lays (refuses l j m reason)
  unfolding refuses
  lays_refuses l j reason = picked Lays (fails_check reason) _ _ (λ e. lays_closes l _) (λ e. silent s)

all_closed_sane : (ls : List ℕ) {m : Machine} → Sane m → Sane (close_all ls m)
all_closed_sane [] s = s
all_closed_sane (l ∷ ls) s = all_closed_sane ls (closed_sane s l)

-- ---- events
abbrev AtTime : Option Alarm → Type 0
AtTime none = Unit {0}
AtTime (some a) = a.time ≤ last_time

module _ (t : ℕ) (timely : t ≤ last_time) where
  input_time : (active : Bool) (a : Alarm) → AtTime (with_input active t a)
  input_time active a = picked AtTime (alike active a.active) none (some (alarm_of active (pick active false a.acknowledged) a.suspended Issue t)) (λ e. tt) (λ e. timely)

  order_time : (j : Json) (a : Alarm) → AtTime (ordered t j a)
  order_time j a =
      picked AtTime (element_is "aSp" "Acknowledge" j) _ _ (λ e. picked AtTime a.acknowledged none _ (λ f. tt) (λ f. timely))
      (λ e. picked AtTime (element_is "aSp" "Suspend" j) _ _ (λ e. picked AtTime a.suspended none _ (λ f. tt) (λ f. timely))
      (λ e. picked AtTime (element_is "aSp" "Resume" j) _ _ (λ e. picked AtTime a.suspended _ none (λ f. timely) (λ f. tt)) (λ e. tt)))

  module _ {m : Machine} (s : Sane m) where
    told_tells : (i : ℕ) (a : Alarm) → i < length m.setup.table.alarms → a.time ≤ last_time → Each (IssuedOf m.setup.table) (told m i a)
    told_tells i a h f =
        picked (Each (IssuedOf m.setup.table)) (is_silent a.event a.suspended) [] _ (λ e. no_more)
        (λ e. maybe_cases (Each (IssuedOf m.setup.table)) [] (λ (p : ℕ). issued_for p (of_alarm i a) ∷ []) m.setup.primary (λ g. no_more) (λ p g. one_more (h, f) no_more))

    lays_happens : (i : ℕ) → i < length m.setup.table.alarms → (o : Option Alarm) → AtTime o → Lays (happens m i o)
    unfolding happens
    lays_happens i h none f = silent s
    lays_happens i h (some a) f = record { sane = sane_alarm s i a f; issues = told_tells i a h f }

    -- ---- subscriptions
    updates : (l i : ℕ) → i < length m.setup.table.statuses → IssuedOf m.setup.table (update m t l i)
    updates l i h = (h, (value_formed s i, timely))

    upwards_numbers : (f : Subscription → Bool) → Each (λ (x : Subscription). x.status < length m.setup.table.statuses) (upwards m f)
    upwards_numbers f =
        each_flat _ (λ l h. each_flat _ (λ i k. each_kept (λ x. both (is_of l i x) (f x))
        (λ x e. there i k x (both_true (eqb x.link l) (eqb x.status i) (both_true (is_of l i x) (f x) e).0).1) m.subscriptions)
        (each_below (length m.statuses))) (each_below m.setup.links)
      where
        there : (i : ℕ) → i < length m.statuses → (x : Subscription) → eqb x.status i ≡ true → x.status < length m.setup.table.statuses
        there i h x e = omega (arith, h, eqb-true x.status i e, s.status_count)

    lays_subscribe : (l : ℕ) (j : Json) → Each (λ (e : Json). not (is_some (status_asked m j e)) ≡ false) (entries_of "sS" j) → Lays (subscribe m t l j)
    unfolding subscribe
    lays_subscribe l j known =
        record {
          sane = sane_subscriptions s _;
          issues = each_map (λ (e : Json). update m t l (number_asked m j e)) (λ e k. updates l (number_asked m j e) (status_there m j e (no_not (is_some (status_asked m j e)) k))) known;
        }

    lays_intervals : Lays (intervals t m)
    unfolding intervals
    lays_intervals =
        record {
          sane = sane_subscriptions s _;
          issues = each_map (λ (x : Subscription). update m t x.link x.status) (λ x h. updates x.link x.status h) (upwards_numbers (is_time t));
        }

    lays_becomes : (i : ℕ) (v : ℤ) → Signed32 v → i < length m.setup.table.statuses → Lays (becomes m i v t)
    unfolding becomes
    lays_becomes i v h k =
        picked Lays (is_new v (value_at m i)) _ _
        (λ e. record {
          sane = sane_status s i v (tells v h);
          issues = each_of (λ (x : Subscription). status_for m t x.link (some v) i) (λ x. (k, (tells v h, timely))) (upwards m (λ x. both (eqb x.status i) x.on_change));
        })
        (λ e. silent s)

    lays_aggregates : (v : ℕ) → v < 256 → Lays (aggregates m v t)
    unfolding aggregates
    lays_aggregates v h =
        picked Lays (eqb v m.aggregated) _ _ (λ e. silent s)
        (λ e. record {
          sane = sane_aggregated s v t h timely;
          issues = each_of (λ (l : ℕ). issued_for l (of_aggregated v t)) (λ l. (h, timely)) (up_to m.setup.links);
        })

    -- ---- packets
    pub lays_carried_out : (l : ℕ) (j : Json) → reason_of m l j ≡ none → Lays (carried_out l t j m)
    unfolding carried_out unsubscribe commands
    lays_carried_out l j unrefused =
        picked Lays (is_type "Version" j) _ _ (λ e. silent (sane_life s l _))
        (λ e. picked Lays (is_type "Watchdog" j) _ _ (λ e. silent (sane_life s l _))
        (λ e. picked Lays (is_type "Alarm" j) _ _ (λ e. lays_happens _ (alarm_there m j (alarm_known m l j unrefused e)) _ (order_time j (alarm_at m (or_else 0 (alarm_asked m j)))))
        (λ e. picked Lays (is_type "StatusSubscribe" j) _ _ (λ e. lays_subscribe l j (statuses_known m l j unrefused e))
        (λ e. picked Lays (is_type "StatusUnsubscribe" j) _ _ (λ e. silent (sane_subscriptions s _))
        (λ e. picked Lays (asks_for "CommandRequest" j) _ _ (λ e. record { sane = s; issues = no_more }) (λ e. silent s))))))

    lays_replying : (l : ℕ) (id : Bytes) (j : Json) (e : Effect) → Lays e → Lays (replying l t id j e)
    unfolding replying
    lays_replying l id j e h =
        picked Lays (replies_at_once j) _ _ (λ o. record { sane = h.sane; issues = h.issues })
        (λ o. picked Lays (wants_reply e.leaves l j) _ _
        (λ w. record { sane = sane_life h.sane l _; issues = h.issues })
        (λ w. record { sane = h.sane; issues = h.issues }))

    lays_received : (l : ℕ) (id : Bytes) (j : Json) → Lays (receives l t id m j)
    unfolding receives
    lays_received l id j =
        picked Lays (is_answer j) _ _ (λ e. lays_answered s l j)
        (λ e. maybe_cases Lays _ _ (reason_of m l j) (λ f. lays_replying l id j _ (lays_carried_out l j f)) (λ reason f. lays_refuses s l j reason))

lays_ticks : (t : ℕ) → t ≤ last_time → {m : Machine} → Sane m → Lays (ticks t m)
unfolding ticks
lays_ticks t timely {m} s =
    let x = lays_intervals t timely (all_closed_sane (late t m) s) in
    record { sane = x.sane; issues = x.issues }

-- ---- every call
pub lays : (m : Machine) → Sane m → (t : ℕ) → t ≤ last_time → (act : Act) → Typed act → first_of (conditions m t act) ≡ none → Lays (effect_of m t act)
unfolding effect_of connects conditions
lays m s t timely (connect l) typed f = silent (sane_life s l (fresh true))
lays m s t timely (disconnect l) typed f = lays_closes s l []
lays m s t timely (packet l random bytes room) typed f =
    maybe_cases Lays (only m) _ (read_packet bytes) (λ e. silent s) (λ j e. lays_received t timely s l (own_identity random) j)
lays m s t timely (alarm_input i active) typed f =
    lays_happens t timely s i (leb-false (length m.setup.table.alarms) i (none_at (conditions m t (alarm_input i active)) f first)) _ (input_time t timely active (alarm_at m i))
lays m s t timely (status_value i v) typed f =
    lays_becomes t timely s i v typed (leb-false (length m.setup.table.statuses) i (none_at (conditions m t (status_value i v)) f first))
lays m s t timely (aggregated_value v) typed f = lays_aggregates t timely s v typed
lays m s t timely tick typed f = lays_ticks t timely s
lays m s t timely (pump l random room) typed f =
    maybe_cases Lays (only m) _ (due m l t) (λ e. silent s) (λ d e. lays_sends s l t (own_identity random) d)
