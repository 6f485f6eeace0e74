-- What a done call makes of a link's life, with what it writes on the link; and by it what holds of every life of a run.
-- Assumes nothing.
use Rattle.basis.proofs.Std.{ℕ, ◌<◌, String, ◌≡◌, refl, sym, ◌∙◌, ap, subst, true, false, not, List, [], ◌∷◌, Option, some, none, ◌⊎◌, inl, inr, eqb, length, get_or, eq-eqb, bool_cases, picked, not_both, both_true}
use Rattle.basis.specs.Lists.Among.{first, later}
use Rattle.json_value.specs.Grammar.{Json}
use Rattle.write_message.specs.Message.{Message}
use Rattle.write_message.specs.Message.Message.{ack}
use Rattle.machine.specs.Words.{Bytes, maybe, is_some, or_else, any, first_of}
use Rattle.machine.specs.State.{Alarm, Awaited, Life, fresh, Machine, with_life, life_at, Act, Effect}
use Rattle.machine.specs.State.Sent.{no_record}
use Rattle.machine.specs.State.Act.{packet, pump}
use Rattle.machine.specs.Json.{read_packet, string_at, string_of, element_is, is_type, asks_for}
use Rattle.machine.specs.Life.{is_up, now_taken, with_watchdogs, common, awaited_by, awaiting, answered_to, Due, due}
use Rattle.machine.specs.Answers.{is_answer, awaited_here, is_ignored, wants_reply, replies_at_once, reason_of, fails_check}
use Rattle.machine.specs.Items.{happens, subscribe, unsubscribe, commands}
use Rattle.machine.specs.Messages.{included_message}
use Rattle.machine.specs.Effects.{closes, own_identity, due_message, sent_as, after_sending, mark_sent, sends, answer_closes, acknowledges, settle, answers, answered, refusal, refuses, agreed, version_accepted, watchdog_taken, carried_out, reply_message, replying, receives, effect_of}
use Rattle.machine.specs.Step.{conditions}
use Rattle.demand_held.proofs.Lists.{maybe_cases}
use Rattle.demand_told.proofs.Tests.{no_not}
use Rattle.demand_told.proofs.Replies.{none_at, NoGreeting, asks, at_once_only, replied_up}
use Rattle.demand_told.proofs.Lives.{closed_there}
use Rattle.demand_told.proofs.Apart.{mark_lives, settle_lives}
use Rattle.demand_told.proofs.Goes.{open_carried_out}
use Rattle.demand_happens.proofs.After.{set_at, is_there}

-- a done call of link l that does not close it: a pump, or a packet by what it comes to
pub data Turned (m : Machine) (t l : ℕ) : Act → List Message → Life → Type 0 where
  sent : {random : Bytes} {room : ℕ} {d : Due} → due m l t ≡ some d
      → Turned m t l (pump l random room) (due_message m t (own_identity random) d ∷ []) (awaiting (own_identity random) t (sent_as m l d) (after_sending t d (life_at m l)))
  answered_by : {random bytes : Bytes} {room : ℕ} {j : Json} {a : Awaited} → read_packet bytes ≡ some j → awaited_by (life_at m l) (string_of "oMId" j) ≡ some a
      → answer_closes (life_at m l) (is_type "MessageAck" j) a.message ≡ false
      → Turned m t l (packet l random bytes room) [] (answered_to (string_of "oMId" j) (acknowledges (is_type "MessageAck" j) a.message (life_at m l)))
  turned_down : {random bytes : Bytes} {room : ℕ} {j : Json} (reason : String) → read_packet bytes ≡ some j
      → Turned m t l (packet l random bytes room) (refusal j reason ∷ []) (life_at m l)
  accepted : {random bytes : Bytes} {room : ℕ} {j : Json} → read_packet bytes ≡ some j → reason_of m l j ≡ none → is_type "Version" j ≡ true
      → Turned m t l (packet l random bytes room) (ack (string_of "mId" j) ∷ []) (agreed (or_else [] (common j)) (life_at m l))
  beaten : {random bytes : Bytes} {room : ℕ} {j : Json} → read_packet bytes ≡ some j → is_type "Version" j ≡ false
      → Turned m t l (packet l random bytes room) (ack (string_of "mId" j) ∷ []) (with_watchdogs (now_taken (life_at m l).watchdogs) (life_at m l))
  taken : {random bytes : Bytes} {room : ℕ} {j : Json} → read_packet bytes ≡ some j → is_type "Version" j ≡ false
      → Turned m t l (packet l random bytes room) (ack (string_of "mId" j) ∷ []) (life_at m l)
  replied : {random bytes : Bytes} {room : ℕ} {j : Json} (n : Machine) → read_packet bytes ≡ some j → is_type "Version" j ≡ false → is_up (life_at m l) ≡ true
      → Turned m t l (packet l random bytes room) (ack (string_of "mId" j) ∷ reply_message n t (own_identity random) j ∷ []) (awaiting (own_identity random) t no_record (life_at m l))
  responded : {random bytes : Bytes} {room : ℕ} {j : Json} (n : Machine) → read_packet bytes ≡ some j → is_type "Version" j ≡ false
      → Turned m t l (packet l random bytes room) (included_message n t j ∷ []) (life_at m l)

module _ (m : Machine) (t l : ℕ) (connected : (life_at m l).connected ≡ true) where
  abbrev Fell : Effect → Type 0
  Fell e = (any (eqb l) e.closed ≡ true) × (life_at e.leaves l ≡ fresh false)

  abbrev Went : Act → Effect → Type 0
  Went act e = (any (eqb l) e.closed ≡ false) × Turned m t l act e.messages (life_at e.leaves l)

  abbrev pub Moved : Act → Effect → Type 0
  Moved act e = Fell e ⊎ Went act e

  there : l < length m.lives
  there = is_there l m.lives connected

  closed_here : (messages : List Message) → Fell (closes l messages m)
  unfolding closes
  closed_here messages = (rw (eq-eqb l l refl), closed_there (λ (k : Life). k ≡ fresh false) l m refl)

  -- set for link l on lives that are the machine's
  set_on : (x : Life) (ks : Machine) → ks.lives ≡ m.lives → life_at (with_life l x ks) l ≡ x
  set_on x ks e = set_at l x (fresh false) ks.lives (subst (λ (q : List Life). l < length q) (sym e) there)

  moved_sends : (random : Bytes) (room : ℕ) (d : Due) → due m l t ≡ some d → Moved (pump l random room) (sends l t (own_identity random) m d)
  unfolding sends
  moved_sends random room d e =
      inr (
        refl,
        subst (Turned m t l (pump l random room) (due_message m t (own_identity random) d ∷ []))
            (sym (set_on (awaiting (own_identity random) t (sent_as m l d) (after_sending t d (life_at m l))) (mark_sent (sent_as m l d) m) (mark_lives (sent_as m l d) m))) (sent e),
      )

  module _ (random bytes : Bytes) (room : ℕ) (j : Json) (read : read_packet bytes ≡ some j) (heard : is_ignored (life_at m l) (some j) ≡ false) where
    abbrev this : Act
    this = packet l random bytes room

    moved_answers : (a : Awaited) → awaited_by (life_at m l) (string_of "oMId" j) ≡ some a → Moved this (answers l (string_of "oMId" j) (is_type "MessageAck" j) m a)
    unfolding answers
    moved_answers a e =
        picked (Moved this) (answer_closes (life_at m l) (is_type "MessageAck" j) a.message) _ _ (λ f. inl (closed_here []))
        (λ f. inr (
          refl,
          subst (Turned m t l this [])
              (sym (set_on (answered_to (string_of "oMId" j) (acknowledges (is_type "MessageAck" j) a.message (life_at m l))) (settle l a.message m) (settle_lives l a.message m)))
              (answered_by read e f),
        ))

    is_awaited_lem : is_answer j ≡ true → awaited_by (life_at m l) (string_of "oMId" j) ≡ none → ⊥
    unfolding is_ignored
    is_awaited_lem is none_there = here (string_at "oMId" j) (both_true (element_is "mType" "rSMsg" j) (awaited_here (life_at m l) j) (no_not _ (rw is at heard))).1 none_there
      where
        here : (o : Option Bytes) → maybe false (λ (s : Bytes). is_some (awaited_by (life_at m l) s)) o ≡ true → awaited_by (life_at m l) (or_else [] o) ≡ none → ⊥
        here none e f = not_both e refl
        here (some s) e f = not_both e (rw f)

    moved_answered : is_answer j ≡ true → Moved this (answered l j m)
    unfolding answered
    moved_answered is =
        maybe_cases (Moved this) _ _ (awaited_by (life_at m l) (string_of "oMId" j)) (λ e. absurd (is_awaited_lem is e)) (λ a e. moved_answers a e)

    moved_refuses : (reason : String) → Moved this (refuses l j m reason)
    unfolding refuses
    moved_refuses reason = picked (Moved this) (fails_check reason) _ _ (λ e. inl (closed_here _)) (λ e. inr (refl, turned_down reason read))

    module _ (other : is_answer j ≡ false) (unrefused : reason_of m l j ≡ none) where
      abbrev SameLives : Effect → Type 0
      SameLives e = e.leaves.lives ≡ m.lives

      happens_lives : (i : ℕ) (o : Option Alarm) → SameLives (happens m i o)
      unfolding happens
      happens_lives i none = refl
      happens_lives i (some a) = refl

      other_lives : NoGreeting j → SameLives (carried_out l t j m)
      unfolding carried_out subscribe unsubscribe commands
      other_lives plain =
          picked SameLives (is_type "Version" j) _ _ (λ e. not_both e plain.0)
          (λ e. picked SameLives (is_type "Watchdog" j) _ _ (λ e. not_both e plain.1)
          (λ e. picked SameLives (is_type "Alarm" j) _ _ (λ e. happens_lives _ _)
          (λ e. picked SameLives (is_type "StatusSubscribe" j) _ _ (λ e. refl)
          (λ e. picked SameLives (is_type "StatusUnsubscribe" j) _ _ (λ e. refl)
          (λ e. picked SameLives (asks_for "CommandRequest" j) _ _ (λ e. refl) (λ e. refl))))))

      version_carried : is_type "Version" j ≡ true → carried_out l t j m ≡ version_accepted l j m
      unfolding carried_out
      version_carried is = rw is

      watchdog_carried : is_type "Version" j ≡ false → is_type "Watchdog" j ≡ true → carried_out l t j m ≡ watchdog_taken l j m
      unfolding carried_out
      watchdog_carried v is = rw (v, is)

      same_life : NoGreeting j → life_at (carried_out l t j m).leaves l ≡ life_at m l
      same_life plain = ap (λ (ks : List Life). get_or ks l (fresh false)) (other_lives plain)

      up : NoGreeting j → is_up (life_at m l) ≡ true
      up plain = replied_up m l j (record { other = other; reason = unrefused; asked = plain }) (rw connected) heard

      acked : Turned m t l this (ack (string_of "mId" j) ∷ []) (life_at (carried_out l t j m).leaves l)
      acked =
          bool_cases (is_type "Version" j)
          (λ v. subst (Turned m t l this (ack (string_of "mId" j) ∷ []))
          (sym (ap (λ (e : Effect). life_at e.leaves l) (version_carried v) ∙ set_on (agreed (or_else [] (common j)) (life_at m l)) m refl)) (accepted read unrefused v))
          (λ v. bool_cases (is_type "Watchdog" j)
          (λ w. subst (Turned m t l this (ack (string_of "mId" j) ∷ []))
          (sym (ap (λ (e : Effect). life_at e.leaves l) (watchdog_carried v w) ∙ set_on (with_watchdogs (now_taken (life_at m l).watchdogs) (life_at m l)) m refl)) (beaten read v))
          (λ w. subst (Turned m t l this (ack (string_of "mId" j) ∷ [])) (sym (same_life (v, w))) (taken read v)))

      moved_replying : Moved this (replying l t (own_identity random) j (carried_out l t j m))
      unfolding replying
      moved_replying =
          picked (Moved this) (replies_at_once j) _ _
          (λ o.
          let plain : NoGreeting j = (at_once_only "Version" refl refl j o, at_once_only "Watchdog" refl refl j o) in
          inr (
            open_carried_out m l t j l,
            subst (Turned m t l this (included_message (carried_out l t j m).leaves t j ∷ [])) (sym (same_life plain)) (responded (carried_out l t j m).leaves read plain.0),
          ))
          (λ o. picked (Moved this) (wants_reply (carried_out l t j m).leaves l j) _ _
          (λ w.
          let plain = asks (carried_out l t j m).leaves l j w in
          inr (
            open_carried_out m l t j l,
            subst (Turned m t l this (ack (string_of "mId" j) ∷ reply_message (carried_out l t j m).leaves t (own_identity random) j ∷ []))
                (sym (set_on (awaiting (own_identity random) t no_record (life_at (carried_out l t j m).leaves l)) (carried_out l t j m).leaves (other_lives plain)
                ∙ ap (awaiting (own_identity random) t no_record) (same_life plain)))
                (replied (carried_out l t j m).leaves read plain.0 (up plain)),
          ))
          (λ w. inr (open_carried_out m l t j l, acked)))

    moved_received : Moved this (receives l t (own_identity random) m j)
    unfolding receives
    moved_received =
        picked (Moved this) (is_answer j) _ _ (λ e. moved_answered e)
        (λ e. maybe_cases (Moved this) _ _ (reason_of m l j) (λ f. moved_replying e f) (λ reason f. moved_refuses reason))

  pub moved_packet : (random bytes : Bytes) (room : ℕ) → first_of (conditions m t (packet l random bytes room)) ≡ none → Moved (packet l random bytes room) (effect_of m t (packet l random bytes room))
  unfolding effect_of conditions is_ignored
  moved_packet random bytes room f =
      maybe_cases (Moved (packet l random bytes room)) _ _ (read_packet bytes) (λ e. not_both refl (rw e at heard))
      (λ j e. moved_received random bytes room j e (rw e at heard))
    where
      heard : is_ignored (life_at m l) (read_packet bytes) ≡ false
      heard = none_at (conditions m t (packet l random bytes room)) f (later (later (later (later (later first)))))

  pub moved_pump : (random : Bytes) (room : ℕ) → first_of (conditions m t (pump l random room)) ≡ none → Moved (pump l random room) (effect_of m t (pump l random room))
  unfolding effect_of conditions
  moved_pump random room f =
      maybe_cases (Moved (pump l random room)) _ _ (due m l t) (λ e. not_both (rw e) something) (λ d e. moved_sends random room d e)
    where
      something : not (is_some (due m l t)) ≡ false
      something = none_at (conditions m t (pump l random room)) f (later (later (later (later first))))
