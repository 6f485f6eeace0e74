-- A done call keeps what a link's awaited identities stand for.
-- Assumes nothing.
use Rattle.basis.proofs.Std.{ℕ, String, ◌≡◌, refl, sym, ◌∙◌, ap, Bool, true, false, List, [], ◌∷◌, Option, some, none, ◌⊎◌, inl, inr, eqb, get_or, arith, eq-eqb, ne_eqb, both, same_bytes, Among, bool_cases, picked, eq_or_ne, not_both}
use Rattle.basis.specs.Lists.Among.{first, later}
use Rattle.identity.specs.Read.{SixteenBytes}
use Rattle.json_value.specs.Grammar.{Json}
use Rattle.write_message.specs.Message.{Message}
use Rattle.write_message.specs.Message.Message.{ack}
use Rattle.machine.specs.Words.{Bytes, maybe, is_number, any, but_first, changed, first_of}
use Rattle.machine.specs.State.{Alarm, Sent, Awaited, Life, fresh, Start, Machine, with_life, life_at, Act, Call, Outcome, Effect, handing, effect, only}
use Rattle.machine.specs.State.Sent.{own_version, own_watchdog, no_record, the_record}
use Rattle.machine.specs.State.Act.{connect, disconnect, packet, alarm_input, status_value, aggregated_value, tick, pump}
use Rattle.machine.specs.Json.{read_packet, string_of, is_type, asks_for, is_identity_of}
use Rattle.machine.specs.Life.{is_awaited, awaited_by, awaiting, answered_to, Due, due}
use Rattle.machine.specs.Life.Due.{the_version, the_watchdog, the_aggregated, the_alarm, the_held}
use Rattle.machine.specs.Answers.{is_answer, wants_reply, replies_at_once, reason_of, fails_check}
use Rattle.machine.specs.Items.{happens, subscribe, unsubscribe, intervals, commands}
use Rattle.machine.specs.Messages.{included_message}
use Rattle.machine.specs.Effects.{connects, closes, late, ticks, own_identity, due_message, sent_as, after_sending, mark_sent, sends, answer_closes, acknowledges, settle, answers, answered, refusal, refuses, carried_out, reply_message, replying, receives, effect_of}
use Rattle.machine.specs.Step.{identity_awaited, is_replied, conditions, outcome, step}
use Rattle.machine.specs.Run.{Past, Run}
use Rattle.demand_held.specs.Held.{packet_link}
use Rattle.demand_held.proofs.Lists.{maybe_cases}
use Rattle.demand_held.proofs.Steps.{step_done}
use Rattle.demand_told.specs.Demand.{link_of}
use Rattle.demand_told.proofs.Replies.{none_at}
use Rattle.demand_told.specs.Life.{connected_by, going_on, this_life}
use Rattle.demand_told.specs.Greeted.{Came}
use Rattle.demand_told.specs.Greeted.Came.{came}
use Rattle.demand_told.proofs.Tests.{no_not}
use Rattle.demand_told.proofs.Lives.{set_there, closed_there, all_there}
use Rattle.demand_told.proofs.Apart.{Apart, apart, apart_tick}
use Rattle.demand_told.proofs.GreetedDemand.{run_kept}
use Rattle.demand_told.specs.Typed.{Typed}
use Rattle.demand_told.proofs.Formed.{sixteen_still}
use Rattle.demand_told.proofs.ReadReplies.{same_carried_out}
use Rattle.demand_carried.specs.Carried.{AnswerCame, Carried}
use Rattle.demand_carried.specs.Carried.AnswerCame.{answer_came}
use Rattle.demand_carried.specs.Carried.Unanswered.{at_once}
use Rattle.demand_carried.proofs.Lists.{each_so, every, none_passes, none_left}
use Rattle.demand_carried.proofs.Backed.{Backed, none_backed, on, more, fewer}
use Rattle.demand_carried.proofs.Sent.{Tells, due_tells}

-- ---- what leaves the awaited identities
pub ack_awaited : (is_ack : Bool) (message : Sent) (k : Life) → (acknowledges is_ack message k).awaited ≡ k.awaited
ack_awaited true own_version k = refl
ack_awaited false own_version k = refl
ack_awaited true own_watchdog k = refl
ack_awaited false own_watchdog k = refl
ack_awaited is_ack no_record k = refl
ack_awaited is_ack (the_record n) k = refl

pub sending_awaited : (t : ℕ) (d : Due) (k : Life) → (after_sending t d k).awaited ≡ k.awaited
sending_awaited t the_version k = refl
sending_awaited t the_watchdog k = refl
sending_awaited t the_aggregated k = refl
sending_awaited t (the_alarm i) k = refl
sending_awaited t (the_held h) k = refl

module _ (l : ℕ) (P : List Awaited → Type 0) where
  -- set for link l
  sets : (k : Life) (ks : List Life) → P k.awaited → P [] → P (get_or (changed l (λ y. k) ks) l (fresh false)).awaited
  sets k ks p q = set_there (fresh false) (λ k. P k.awaited) l k ks p q

  module _ (m : Machine) (p : P (life_at m l).awaited) (q : P []) where
    -- and nothing is closed
    abbrev Leaves : Effect → Type 0
    Leaves e = P (life_at e.leaves l).awaited × (any (eqb l) e.closed ≡ false)

    happens_awaited : (i : ℕ) (o : Option Alarm) → Leaves (happens m i o)
    unfolding happens
    happens_awaited i none = (p, refl)
    happens_awaited i (some a) = (p, refl)

    carried_out_awaited : (t : ℕ) (j : Json) → Leaves (carried_out l t j m)
    unfolding carried_out subscribe unsubscribe commands
    carried_out_awaited t j =
        picked Leaves (is_type "Version" j) _ _ (λ e. (sets _ m.lives p q, refl))
        (λ e. picked Leaves (is_type "Watchdog" j) _ _ (λ e. (sets _ m.lives p q, refl))
        (λ e. picked Leaves (is_type "Alarm" j) _ _ (λ e. happens_awaited _ _)
        (λ e. picked Leaves (is_type "StatusSubscribe" j) _ _ (λ e. (p, refl))
        (λ e. picked Leaves (is_type "StatusUnsubscribe" j) _ _ (λ e. (p, refl))
        (λ e. picked Leaves (asks_for "CommandRequest" j) _ _ (λ e. (p, refl)) (λ e. (p, refl)))))))

-- ---- which calls bring no answer
module _ (l : ℕ) (p : Past) where
  abbrev pub Quiet : Type 0
  Quiet = (id : Bytes) → AnswerCame l id p → ⊥

  pub quiet_apart : is_number l (packet_link p.call.act) ≡ false → Quiet
  quiet_apart e id (answer_came (came f r g) a o) = not_both (rw f (eq-eqb l l refl)) e

  module _ (random bytes : Bytes) (room : ℕ) (this : p.call.act ≡ packet l random bytes room) where
    quiet_none : read_packet bytes ≡ none → Quiet
    quiet_none n id (answer_came {j = i} (came {bytes = b} f r g) a o) =
        let same : b ≡ bytes = cc in absurd (let z : ◌≡◌ {A = ℕ} 0 1 = cc in omega arith)

    module _ (j : Json) (is : read_packet bytes ≡ some j) where
      its_value : (i : Json) → Came l i p → i ≡ j
      its_value i (came {bytes = b} f r g) = let same : b ≡ bytes = cc in cc

      quiet_other : is_answer j ≡ false → Quiet
      quiet_other n id (answer_came {j = i} c a o) = not_both a (rw (its_value i c) n)

      quiet_for : (id : Bytes) → is_identity_of id (string_of "oMId" j) ≡ false → AnswerCame l id p → ⊥
      quiet_for id n (answer_came {j = i} c a o) = not_both o (rw (its_value i c) n)

newly_lived : (p : Past) (life : List Past) → (life ≡ [] → ⊥) → Among p (going_on p life)
newly_lived p [] n = absurd (n refl)
newly_lived p (q ∷ life) n = first

module _ (s : Start) (h : List Past) (m : Machine) (run : Run s h m) (t l : ℕ) (backed : Backed s l h (life_at m l).awaited) where
  abbrev past_of : Act → Effect → Past
  past_of act e = record { call = record { time = t; act = act }; gave = outcome e }

  abbrev pub Goes : Act → Effect → Type 0
  Goes act e = Backed s l (past_of act e ∷ h) (life_at e.leaves l).awaited

  -- the link is Down after it
  falls : (act : Act) (e : Effect) → ((P : Life → Type 0) → P (fresh false) → P (life_at e.leaves l)) → Goes act e
  falls act e f = f (λ k. Backed s l (past_of act e ∷ h) k.awaited) (none_backed s l (past_of act e ∷ h))

  -- the awaited identities stay
  stays : (act : Act) (e : Effect) → is_number l (connected_by act) ≡ false → any (eqb l) e.closed ≡ false → Quiet l (past_of act e)
      → Backed s l (past_of act e ∷ h) (life_at m l).awaited
  stays act e n c q = on s l (past_of act e) n c (every (λ (a : Awaited). q a.identity) (life_at m l).awaited) backed

  aparts : (act : Act) (e : Effect) → is_number l (connected_by act) ≡ false → is_number l (packet_link act) ≡ false → Apart m l e → Goes act e
  aparts act e n k a = rw a.life (stays act e n a.unnamed (quiet_apart l (past_of act e) k))

  goes_closes : (act : Act) (messages : List Message) → Goes act (closes l messages m)
  unfolding closes
  goes_closes act messages = falls act (closes l messages m) (λ P p. closed_there P l m p)

  goes_ticks : Goes tick (ticks t m)
  unfolding ticks intervals
  goes_ticks =
      bool_cases (any (eqb l) (late t m))
      (λ e. falls tick (ticks t m) (λ P p. all_there P l (late t m) m e p))
      (λ e. aparts tick (ticks t m) refl refl (apart_tick m l t e))

  goes_connects : Goes (connect l) (connects l m)
  unfolding connects
  goes_connects = sets l (Backed s l (past_of (connect l) (connects l m) ∷ h)) (fresh true) m.lives (none_backed s l _) (none_backed s l _)

  -- ---- a packet of link l
  module _ (random bytes : Bytes) (room : ℕ) where
    abbrev this : Act
    this = packet l random bytes room

    module _ (j : Json) (is : read_packet bytes ≡ some j) where
      abbrev ours : Awaited → Bool
      ours a = is_identity_of a.identity (string_of "oMId" j)

      abbrev answered_life : Awaited → Life
      answered_life a = answered_to (string_of "oMId" j) (acknowledges (is_type "MessageAck" j) a.message (life_at m l))

      goes_answers : (a : Awaited) → Goes this (answers l (string_of "oMId" j) (is_type "MessageAck" j) m a)
      unfolding answers
      goes_answers a =
          picked (Goes this) (answer_closes (life_at m l) (is_type "MessageAck" j) a.message) _ _ (λ e. goes_closes this [])
          (λ e. sets l (Backed s l (p ∷ h)) (answered_life a) (settle l a.message m).lives
          (rw (ack_awaited (is_type "MessageAck" j) a.message (life_at m l)) without) (none_backed s l (p ∷ h)))
        where
          p : Past
          p = past_of this (only (with_life l (answered_life a) (settle l a.message m)))

          without : Backed s l (p ∷ h) (but_first ours (life_at m l).awaited)
          without =
              on s l p refl refl
              (each_so (λ x n. quiet_for l p random bytes room refl j is x.identity n) (none_left ours (life_at m l).awaited (backed.once (string_of "oMId" j))))
              (fewer s l backed ours)

      goes_answered : Goes this (answered l j m)
      unfolding answered
      goes_answered =
          maybe_cases (Goes this) (only m) _ (awaited_by (life_at m l) (string_of "oMId" j))
          (λ e. on s l (past_of this (only m)) refl refl
          (each_so (λ x n. quiet_for l (past_of this (only m)) random bytes room refl j is x.identity n) (none_passes ours (life_at m l).awaited e)) backed)
          (λ a e. goes_answers a)

      module _ (other : is_answer j ≡ false) where
        keeps : (e : Effect) → any (eqb l) e.closed ≡ false → Backed s l (past_of this e ∷ h) (life_at m l).awaited
        keeps e c = stays this e refl c (quiet_other l (past_of this e) random bytes room refl j is other)

        goes_refuses : (reason : String) → Goes this (refuses l j m reason)
        unfolding refuses
        goes_refuses reason =
            picked (Goes this) (fails_check reason) _ _ (λ e. goes_closes this _) (λ e. keeps (effect m [] (refusal j reason ∷ []) [] none) refl)

        module _ (unrefused : reason_of m l j ≡ none) (id : Bytes) (sixteen : SixteenBytes id) (free : is_replied m l j ≡ true → is_awaited (life_at m l) id ≡ false) where
          abbrev out : Effect
          out = carried_out l t j m

          abbrev replied : Effect
          replied =
              handing out.commands (with_life l (awaiting id t no_record (life_at out.leaves l)) out.leaves) out.issues
              (ack (string_of "mId" j) ∷ reply_message out.leaves t id j ∷ []) out.closed out.hint

          abbrev responded : Effect
          responded = handing out.commands out.leaves out.issues (included_message out.leaves t j ∷ []) out.closed out.hint

          abbrev acked_only : Effect
          acked_only = handing out.commands out.leaves out.issues (ack (string_of "mId" j) ∷ []) out.closed out.hint

          unclosed : any (eqb l) out.closed ≡ false
          unclosed = (carried_out_awaited l (λ (ids : List Awaited). Unit {0}) m tt tt t j).1

          -- the identities of the machine are those after it
          kept_by : (p : Past) → Backed s l (p ∷ h) (life_at m l).awaited → Backed s l (p ∷ h) (life_at out.leaves l).awaited
          kept_by p b = (carried_out_awaited l (Backed s l (p ∷ h)) m b (none_backed s l (p ∷ h)) t j).0

          replies : wants_reply out.leaves l j ≡ true → is_replied m l j ≡ true
          replies w = rw (other, unrefused) (rw (same_carried_out l t j m) at w)

          unawaited : wants_reply out.leaves l j ≡ true → is_awaited (life_at out.leaves l) id ≡ false
          unawaited w = (carried_out_awaited l (λ (ids : List Awaited). any (λ (a : Awaited). same_bytes a.identity id) ids ≡ false) m (free (replies w)) refl t j).0

          goes_replying : Goes this (replying l t id j out)
          unfolding replying
          goes_replying =
              picked (Goes this) (replies_at_once j) _ _ (λ o. kept_by (past_of this responded) (keeps responded unclosed))
              (λ o. picked (Goes this) (wants_reply out.leaves l j) _ _
              (λ w. sets l (Backed s l (past_of this replied ∷ h)) (awaiting id t no_record (life_at out.leaves l)) out.leaves.lives
              (more s l (kept_by (past_of this replied) (keeps replied unclosed)) (record { identity = id; time = t; message = no_record })
              (λ n c. absurd (let z : ◌≡◌ {A = ℕ} 0 1 = cc in omega arith)) sixteen (unawaited w))
              (none_backed s l (past_of this replied ∷ h)))
              (λ w. kept_by (past_of this acked_only) (keeps acked_only unclosed)))

      goes_received : (id : Bytes) → SixteenBytes id → (is_replied m l j ≡ true → is_awaited (life_at m l) id ≡ false) → Goes this (receives l t id m j)
      unfolding receives
      goes_received id sixteen free =
          picked (Goes this) (is_answer j) _ _ (λ e. goes_answered)
          (λ e. maybe_cases (Goes this) _ _ (reason_of m l j) (λ f. goes_replying e f id sixteen free) (λ reason f. goes_refuses e reason))

    received : SixteenBytes random → first_of (conditions m t this) ≡ none → Goes this (effect_of m t this)
    unfolding effect_of conditions
    received sixteen f =
        maybe_cases (Goes this) (only m) _ (read_packet bytes)
        (λ e. stays this (only m) refl refl (quiet_none l (past_of this (only m)) random bytes room refl e))
        (λ j e. goes_received j e (own_identity random) (sixteen_still random sixteen) (free j e))
      where
        nine : both (maybe false (is_replied m l) (read_packet bytes)) (identity_awaited m l random) ≡ false
        nine = none_at (conditions m t this) f (later (later (later (later (later (later first))))))

        free : (j : Json) → read_packet bytes ≡ some j → is_replied m l j ≡ true → is_awaited (life_at m l) (own_identity random) ≡ false
        free j e r = rw (e, r) at nine

  -- ---- a pump of link l
  module _ (random : Bytes) (room : ℕ) where
    abbrev pumping : Call
    pumping = record { time = t; act = pump l random room }

    module _ (d : Due) (gave : (step m pumping).0 ≡ outcome (sends l t (own_identity random) m d)) where
      abbrev this_past : Past
      this_past = past_of (pump l random room) (sends l t (own_identity random) m d)

      carries : (life_at m l).connected ≡ true → {n : ℕ} → Tells m l n (own_identity random) (due_message m t (own_identity random) d) → Carried s (this_past ∷ h) l n (own_identity random)
      unfolding sends
      carries connected tells =
          record {
            before = h;
            machine = m;
            run = run;
            call = pumping;
            random = random;
            room = room;
            pumped = refl;
            content = tells.content;
            held = tells.held;
            sent = rw (← tells.told) gave;
            since = rw gave at_once;
            life = rw gave (newly_lived this_past (this_life l h) ((run_kept run m refl l).there connected));
          }

    goes_sends : (d : Due) → due m l t ≡ some d → (step m pumping).0 ≡ outcome (sends l t (own_identity random) m d) → (life_at m l).connected ≡ true → SixteenBytes random
        → is_awaited (life_at m l) (own_identity random) ≡ false → Goes (pump l random room) (sends l t (own_identity random) m d)
    unfolding sends
    goes_sends d e gave connected sixteen free =
        sets l (Backed s l (p ∷ h)) (awaiting (own_identity random) t (sent_as m l d) (after_sending t d (life_at m l))) (mark_sent (sent_as m l d) m).lives
        (rw (sending_awaited t d (life_at m l)) (more s l (stays (pump l random room) (sends l t (own_identity random) m d) refl refl (quiet_apart l p refl)) _
        (λ n c. carries d gave connected (due_tells m l t (own_identity random) d e n c)) (sixteen_still random sixteen) free))
        (none_backed s l (p ∷ h))
      where
        p : Past
        p = past_of (pump l random room) (sends l t (own_identity random) m d)

    pumped : SixteenBytes random → first_of (conditions m t (pump l random room)) ≡ none → Goes (pump l random room) (effect_of m t (pump l random room))
    unfolding effect_of conditions
    pumped sixteen f =
        maybe_cases (Goes (pump l random room)) (only m) _ (due m l t)
        (λ e. stays (pump l random room) (only m) refl refl (quiet_apart l _ refl))
        (λ d e. goes_sends d e (gave d e) (no_not _ (none_at (conditions m t (pump l random room)) f (later (later (later first))))) sixteen
        (none_at (conditions m t (pump l random room)) f (later (later (later (later (later (later first))))))))
      where
        gave : (d : Due) → due m l t ≡ some d → (step m pumping).0 ≡ outcome (sends l t (own_identity random) m d)
        gave d e = ap (λ (r : Outcome × Machine). r.0) (step_done m pumping f) ∙ rw e

  -- ---- every call
  abbrev pub After : Act → Type 0
  After act = Typed act → first_of (conditions m t act) ≡ none → Goes act (effect_of m t act)

  by_link : (P : ℕ → Type 0) (k : ℕ) → P l → ((k ≡ l → ⊥) → P k) → P k
  by_link P k own other = go (eq_or_ne k l)
    where
      go : (k ≡ l) ⊎ (k ≡ l → ⊥) → P k
      go (inl e) = rw e own
      go (inr n) = other n

  other_than : (k : ℕ) → (k ≡ l → ⊥) → is_number l (some k) ≡ false
  other_than k n = ne_eqb l k (λ e. n (sym e))

  elsewhere : (act : Act) → is_number l (connected_by act) ≡ false → is_number l (packet_link act) ≡ false → is_number l (link_of act) ≡ false → (act ≡ tick → ⊥) → After act
  elsewhere act n k o no_tick typed f = aparts act (effect_of m t act) n k (apart m t act l o (λ e. absurd (no_tick e)))

  pub goes : (act : Act) → After act
  unfolding effect_of
  goes (connect k) =
      by_link (λ k. After (connect k)) k (λ typed f. goes_connects)
      (λ n. elsewhere (connect k) (other_than k n) refl (other_than k n) (λ e. let z : ◌≡◌ {A = ℕ} 0 1 = cc in omega arith))
  goes (disconnect k) =
      by_link (λ k. After (disconnect k)) k (λ typed f. goes_closes (disconnect l) [])
      (λ n. elsewhere (disconnect k) refl refl (other_than k n) (λ e. let z : ◌≡◌ {A = ℕ} 0 1 = cc in omega arith))
  goes (packet k random bytes room) =
      by_link (λ k. After (packet k random bytes room)) k (received random bytes room)
      (λ n. elsewhere (packet k random bytes room) refl (other_than k n) (other_than k n) (λ e. let z : ◌≡◌ {A = ℕ} 0 1 = cc in omega arith))
  goes (alarm_input i active) = elsewhere (alarm_input i active) refl refl refl (λ e. let z : ◌≡◌ {A = ℕ} 0 1 = cc in omega arith)
  goes (status_value i v) = elsewhere (status_value i v) refl refl refl (λ e. let z : ◌≡◌ {A = ℕ} 0 1 = cc in omega arith)
  goes (aggregated_value v) = elsewhere (aggregated_value v) refl refl refl (λ e. let z : ◌≡◌ {A = ℕ} 0 1 = cc in omega arith)
  goes tick = λ typed f. goes_ticks
  goes (pump k random room) =
      by_link (λ k. After (pump k random room)) k (pumped random room)
      (λ n. elsewhere (pump k random room) refl refl (other_than k n) (λ e. let z : ◌≡◌ {A = ℕ} 0 1 = cc in omega arith))
