-- Each call's frame, and for which links it issues.
-- Assumes nothing.
use Rattle.basis.proofs.Std.{ℕ, ◌<◌, String, ◌≡◌, refl, subst, Bool, true, false, List, [], ◌∷◌, Option, some, none, eqb, ℤ, length, eqb-true, eq-eqb, both, picked, both_first}
use Rattle.json_value.specs.Grammar.{Json}
use Rattle.write_message.specs.Message.{Message}
use Rattle.machine.specs.Words.{Bytes, up_to}
use Rattle.machine.specs.State.{Setup, Alarm, Subscription, issued_for, Sent, Awaited, Machine, with_life, fresh, life_at, value_at, Act, Effect, effect, only}
use Rattle.machine.specs.State.Content.{of_alarm, of_aggregated}
use Rattle.machine.specs.State.Act.{connect, disconnect, packet, alarm_input, status_value, aggregated_value, tick, pump}
use Rattle.machine.specs.Json.{read_packet, string_of, entries_of, is_type, asks_for}
use Rattle.machine.specs.Life.{unsent, close, close_all, awaited_by, Due, due}
use Rattle.machine.specs.Answers.{is_answer, wants_reply, replies_at_once, reason_of, fails_check}
use Rattle.machine.specs.Items.{is_silent, is_of, status_for, update, number_asked, upwards, is_time, is_new, told, happens, subscribe, unsubscribe, intervals, becomes, commands, aggregates}
use Rattle.machine.specs.Pool.{marked}
use Rattle.machine.specs.Effects.{connects, closes, late, ticks, sent_as, carried, mark_sent, sends, answer_closes, settle, answers, answered, refuses, carried_out, replying, receives, own_identity, effect_of}
use Rattle.demand_held.specs.Held.{Answered, packet_link}
use Rattle.demand_held.specs.Held.Answered.{answered as answered_by}
use Rattle.demand_held.proofs.Lists.{maybe_cases, Each, each_map, each_of, each_kept, each_flat, each_below}
use Rattle.demand_held.proofs.Lists.Each.{no_more, one_more}
use Rattle.demand_held.proofs.Issue.{FitsIssued, For}
use Rattle.demand_held.proofs.Frame.{Frame, still, then, marks, settles}

-- ---- closing
close_frame : {E : ℕ → ℕ → Type 0} (l : ℕ) (m : Machine) → Frame E m (close l m)
unfolding close
close_frame l m = then (still (with_life l (fresh false) m) refl refl) (marks (with_life l (fresh false) m) (unsent l) (λ h. refl) (λ h. refl) (λ h. refl))

close_all_frame : {E : ℕ → ℕ → Type 0} (ls : List ℕ) (m : Machine) → Frame E m (close_all ls m)
close_all_frame [] m = still m refl refl
close_all_frame (l ∷ ls) m = then (close_frame l m) (close_all_frame ls (close l m))

-- ---- subscriptions issue for configured links
upwards_links : (m : Machine) (f : Subscription → Bool) → Each (λ (s : Subscription). s.link < m.setup.links) (upwards m f)
upwards_links m f =
    each_flat _ (λ l h. each_flat _ (λ i k. each_kept (λ s. both (is_of l i s) (f s))
    (λ s e. of_link l h s (both_first (eqb s.link l) (eqb s.status i) (both_first (is_of l i s) (f s) e))) m.subscriptions)
    (each_below (length m.statuses))) (each_below m.setup.links)
  where
    of_link : (l : ℕ) → l < m.setup.links → (s : Subscription) → eqb s.link l ≡ true → s.link < m.setup.links
    of_link l h s e = rw (eqb-true s.link l e) h

module _ (E : ℕ → ℕ → Type 0) (m : Machine) where
  pub record Lays (e : Effect) : Type 0 where
    pub frame : Frame E m e.leaves
    pub issued : Each (For m.setup.links) e.issues
    pub told : Each (FitsIssued m.setup) e.issues

  -- a call that leaves the pool, or only closes, and issues nothing
  calm : (k : Machine) (messages : List Message) (closed : List ℕ) (hint : Option ℕ) → k.setup ≡ m.setup → k.pool ≡ m.pool → Lays (effect k [] messages closed hint)
  calm k messages closed hint s e = record { frame = still k s e; issued = no_more; told = no_more }

  lays_closes : (l : ℕ) (messages : List Message) → Lays (closes l messages m)
  unfolding closes
  lays_closes l messages = record { frame = close_frame l m; issued = no_more; told = no_more }

  lays_connects : (l : ℕ) → Lays (connects l m)
  unfolding connects
  lays_connects l = calm (with_life l (fresh true) m) [] [] none refl refl

  lays_ticks : (t : ℕ) → Lays (ticks t m)
  unfolding ticks intervals
  lays_ticks t =
      record {
        frame = then (close_all_frame (late t m) m) (still _ refl refl);
        issued =
            subst (λ (u : Setup). Each (For u.links) (intervals t (close_all (late t m) m)).issues) (close_all_frame {E = E} (late t m) m).setup
            (each_map _ (λ s h. h) (upwards_links (close_all (late t m) m) (is_time t)));
        told =
            each_of (λ (s : Subscription). update (close_all (late t m) m) t s.link s.status) (λ s. refl) (upwards (close_all (late t m) m) (is_time t));
      }

  -- ---- inputs
  module _ (primary : (p : ℕ) → m.setup.primary ≡ some p → p < m.setup.links) where
    told_links : (i : ℕ) (a : Alarm) → Each (For m.setup.links) (told m i a)
    told_links i a =
        picked (Each (For m.setup.links)) (is_silent a.event a.suspended) [] _ (λ e. no_more)
        (λ e. maybe_cases (Each (For m.setup.links)) [] _ m.setup.primary (λ f. no_more) (λ p f. one_more (primary p f) no_more))

    told_fits : (i : ℕ) (a : Alarm) → Each (FitsIssued m.setup) (told m i a)
    told_fits i a =
        picked (Each (FitsIssued m.setup)) (is_silent a.event a.suspended) [] _ (λ e. no_more)
        (λ e. maybe_cases (Each (FitsIssued m.setup)) [] (λ (p : ℕ). issued_for p (of_alarm i a) ∷ []) m.setup.primary (λ f. no_more)
        (λ p f. one_more (rw f (eq-eqb p p refl)) no_more))

    lays_happens : (i : ℕ) (o : Option Alarm) → Lays (happens m i o)
    unfolding happens
    lays_happens i none = calm m [] [] none refl refl
    lays_happens i (some a) = record { frame = still _ refl refl; issued = told_links i a; told = told_fits i a }

  lays_becomes : (i : ℕ) (v : ℤ) (t : ℕ) → Lays (becomes m i v t)
  unfolding becomes
  lays_becomes i v t =
      picked Lays (is_new v (value_at m i)) _ _
      (λ e. record {
        frame = still _ refl refl;
        issued = each_map _ (λ s h. h) (upwards_links m _);
        told = each_of (λ (s : Subscription). status_for m t s.link (some v) i) (λ s. refl) (upwards m (λ s. both (eqb s.status i) s.on_change));
      })
      (λ e. calm m [] [] none refl refl)

  lays_aggregates : (v t : ℕ) → Lays (aggregates m v t)
  unfolding aggregates
  lays_aggregates v t =
      picked Lays (eqb v m.aggregated) _ _
      (λ e. calm m [] [] none refl refl)
      (λ e. record {
        frame = still _ refl refl;
        issued = each_map _ (λ l h. h) (each_below m.setup.links);
        told = each_of (λ (l : ℕ). issued_for l (of_aggregated v t)) (λ l. refl) (up_to m.setup.links);
      })

  -- ---- pump
  mark_frame : (message : Sent) → Frame E m (mark_sent message m)
  mark_frame message =
      maybe_cases (Frame E m) m _ (carried message) (λ e. still m refl refl) (λ n e. marks m (marked n) (λ h. refl) (λ h. refl) (λ h. refl))

  lays_sends : (l t : ℕ) (id : Bytes) (d : Due) → Lays (sends l t id m d)
  unfolding sends
  lays_sends l t id d = record { frame = then (mark_frame (sent_as m l d)) (still _ refl refl); issued = no_more; told = no_more }

  -- ---- packet
  lays_refuses : (l : ℕ) (j : Json) (reason : String) → Lays (refuses l j m reason)
  unfolding refuses
  lays_refuses l j reason = picked Lays (fails_check reason) _ _ (λ e. lays_closes l _) (λ e. calm m _ [] none refl refl)

  lays_replying : (l t : ℕ) (id : Bytes) (j : Json) (e : Effect) → Lays e → Lays (replying l t id j e)
  unfolding replying
  lays_replying l t id j e a =
      picked Lays (replies_at_once j) _ _ (λ o. record { frame = a.frame; issued = a.issued; told = a.told })
      (λ o. picked Lays (wants_reply e.leaves l j) _ _
      (λ w. record { frame = then a.frame (still _ refl refl); issued = a.issued; told = a.told })
      (λ w. record { frame = a.frame; issued = a.issued; told = a.told }))

  lays_commands : (j : Json) → Lays (commands m j)
  unfolding commands
  lays_commands j = record { frame = still m refl refl; issued = no_more; told = no_more }

  module _ (primary : (p : ℕ) → m.setup.primary ≡ some p → p < m.setup.links) (l : ℕ) (there : l < m.setup.links) where
    lays_subscribe : (t : ℕ) (j : Json) → Lays (subscribe m t l j)
    unfolding subscribe
    lays_subscribe t j = record {
      frame = still _ refl refl;
      issued = each_of (λ (e : Json). update m t l (number_asked m j e)) (λ e. there) (entries_of "sS" j);
      told = each_of (λ (e : Json). update m t l (number_asked m j e)) (λ e. refl) (entries_of "sS" j);
    }

    lays_unsubscribe : (j : Json) → Lays (unsubscribe m l j)
    unfolding unsubscribe
    lays_unsubscribe j = calm _ [] [] none refl refl

    lays_carried_out : (t : ℕ) (j : Json) → Lays (carried_out l t j m)
    unfolding carried_out
    lays_carried_out t j =
        picked Lays (is_type "Version" j) _ _ (λ e. calm _ [] [] none refl refl)
        (λ e. picked Lays (is_type "Watchdog" j) _ _ (λ e. calm _ [] [] _ refl refl)
        (λ e. picked Lays (is_type "Alarm" j) _ _ (λ e. lays_happens primary _ _)
        (λ e. picked Lays (is_type "StatusSubscribe" j) _ _ (λ e. lays_subscribe t j)
        (λ e. picked Lays (is_type "StatusUnsubscribe" j) _ _ (λ e. lays_unsubscribe j)
        (λ e. picked Lays (asks_for "CommandRequest" j) _ _ (λ e. lays_commands j) (λ e. calm m [] [] none refl refl))))))

-- ---- an answer
module _ (m : Machine) (l : ℕ) (random bytes : Bytes) (room : ℕ) (j : Json) (is : read_packet bytes ≡ some j) (answer : is_answer j ≡ true) where
  abbrev Ends : ℕ → ℕ → Type 0
  Ends k n = Answered m k n (packet l random bytes room)

  settle_frame : (a : Awaited) → awaited_by (life_at m l) (string_of "oMId" j) ≡ some a → Frame Ends m (settle l a.message m)
  settle_frame a e = maybe_cases (Frame Ends m) m _ (carried a.message) (λ f. still m refl refl) (λ n f. settles m l n (answered_by is answer e f))

  lays_answers : (a : Awaited) → awaited_by (life_at m l) (string_of "oMId" j) ≡ some a → Lays Ends m (answers l (string_of "oMId" j) (is_type "MessageAck" j) m a)
  unfolding answers
  lays_answers a e =
      picked (Lays Ends m) (answer_closes (life_at m l) (is_type "MessageAck" j) a.message) _ _
      (λ f. lays_closes Ends m l [])
      (λ f. record { frame = then (settle_frame a e) (still _ refl refl); issued = no_more; told = no_more })

  lays_answered : Lays Ends m (answered l j m)
  unfolding answered
  lays_answered =
      maybe_cases (Lays Ends m) (only m) (answers l (string_of "oMId" j) (is_type "MessageAck" j) m) (awaited_by (life_at m l) (string_of "oMId" j))
      (λ e. calm Ends m m [] [] none refl refl)
      lays_answers

-- ---- every call
module _ (m : Machine) (primary : (p : ℕ) → m.setup.primary ≡ some p → p < m.setup.links) where
  abbrev pub LaysBy : Act → Effect → Type 0
  LaysBy act e = Lays (λ l n. Answered m l n act) m e

  lays_received : (l t : ℕ) (random bytes : Bytes) (room : ℕ) → l < m.setup.links → (j : Json) → read_packet bytes ≡ some j
      → LaysBy (packet l random bytes room) (receives l t (own_identity random) m j)
  unfolding receives
  lays_received l t random bytes room there j is =
      picked (LaysBy (packet l random bytes room)) (is_answer j) _ _
      (λ e. lays_answered m l random bytes room j is e)
      (λ e. maybe_cases (LaysBy (packet l random bytes room)) _ _ (reason_of m l j)
      (λ f. lays_replying _ m l t (own_identity random) j (carried_out l t j m) (lays_carried_out _ m primary l there t j))
      (λ reason f. lays_refuses _ m l j reason))

  pub lays : (t : ℕ) (act : Act) → ((l : ℕ) → packet_link act ≡ some l → l < m.setup.links) → LaysBy act (effect_of m t act)
  unfolding effect_of
  lays t (connect l) there = lays_connects _ m l
  lays t (disconnect l) there = lays_closes _ m l []
  lays t (packet l random bytes room) there =
      maybe_cases (LaysBy (packet l random bytes room)) (only m) _ (read_packet bytes)
      (λ e. calm _ m m [] [] none refl refl)
      (λ j e. lays_received l t random bytes room (there l refl) j e)
  lays t (alarm_input i active) there = lays_happens _ m primary i _
  lays t (status_value i v) there = lays_becomes _ m i v t
  lays t (aggregated_value v) there = lays_aggregates _ m v t
  lays t tick there = lays_ticks _ m t
  lays t (pump l random room) there =
      maybe_cases (LaysBy (pump l random room)) (only m) _ (due m l t)
      (λ e. calm _ m m [] [] none refl refl)
      (λ d e. lays_sends _ m l t (own_identity random) d)
