-- What a round of pump and answer leaves of an Up link with nothing awaited: again such a link, and of the pool all but what the message carried.
-- Assumes nothing.
use Rattle.basis.proofs.Std.{ℕ, ◌<◌, ◌≡◌, refl, ◌∙◌, ap, Bool, true, false, List, [], ◌∷◌, map, some, none, length, arith, picked, both_true}
use Rattle.json_value.specs.Grammar.{Json}
use Rattle.machine.specs.Words.{Bytes, maybe}
use Rattle.machine.specs.State.{Held, Sent, Awaited, Life, fresh, Start, Machine, life_at, with_life, Outcome, only}
use Rattle.machine.specs.State.Sent.{own_version, own_watchdog, no_record, the_record}
use Rattle.machine.specs.State.Act.{packet, pump}
use Rattle.machine.specs.State.Outcome.{done}
use Rattle.machine.specs.Json.{string_of, is_type}
use Rattle.machine.specs.Life.{is_over, is_beating, is_up, awaiting, answered_to, Due, due}
use Rattle.machine.specs.Life.Due.{the_version, the_watchdog, the_aggregated, the_alarm, the_held}
use Rattle.machine.specs.Pool.{settled, marked}
use Rattle.machine.specs.Effects.{own_identity, due_message, sent_as, carried, after_sending, mark_sent, sends, answer_closes, acknowledges, settle}
use Rattle.machine.specs.Step.{after, step}
use Rattle.machine.specs.Run.{Past, past, Run}
use Rattle.machine.specs.Run.Run.{next}
use Rattle.demand_held.proofs.Steps.{step_done}
use Rattle.demand_told.proofs.Apart.{mark_lives, settle_lives}
use Rattle.demand_told.proofs.GreetedDemand.{same_setup}
use Rattle.demand_happens.specs.Pumped.{at, CanPump}
use Rattle.demand_happens.specs.Records.{IsRound}
use Rattle.demand_happens.proofs.Pumped.{sends_first_due}
use Rattle.demand_told.proofs.Limits.{run_limit}
use Rattle.demand_happens.proofs.Packets.{its_own}
use Rattle.demand_happens.proofs.After.{set_at, is_there, answer_number, answer_lays}

-- ---- small laws of a life
pub up_connected : (k : Life) → is_up k ≡ true → k.connected ≡ true
up_connected k e = (both_true k.connected _ e).0

pub up_over : (k : Life) → is_up k ≡ true → (is_over k.versions ≡ true) × (is_over k.watchdogs ≡ true)
up_over k e = both_true (is_over k.versions) _ (both_true k.connected _ e).1

up_not_beating : (k : Life) → is_up k ≡ true → is_beating k ≡ false
up_not_beating k e = rw (up_connected k e, (up_over k e).0, (up_over k e).1)

pub sent_up : (t : ℕ) (d : Due) (k : Life) → is_up k ≡ true → is_up (after_sending t d k) ≡ true
sent_up t the_version k e = e
sent_up t the_watchdog k e = e
sent_up t the_aggregated k e = e
sent_up t (the_alarm i) k e = e
sent_up t (the_held h) k e = e

sent_awaited : (t : ℕ) (d : Due) (k : Life) → (after_sending t d k).awaited ≡ k.awaited
sent_awaited t the_version k = refl
sent_awaited t the_watchdog k = refl
sent_awaited t the_aggregated k = refl
sent_awaited t (the_alarm i) k = refl
sent_awaited t (the_held h) k = refl

pub acked_up : (b : Bool) (s : Sent) (k : Life) → is_up k ≡ true → is_up (acknowledges b s k) ≡ true
acked_up b own_version k e =
    picked (λ (x : Life). is_up x ≡ true) b _ k
    (λ f. rw (up_connected k e, (both_true k.versions.acknowledged _ (up_over k e).0).1, (up_over k e).1))
    (λ f. e)
acked_up b own_watchdog k e =
    picked (λ (x : Life). is_up x ≡ true) b _ k
    (λ f. rw (up_connected k e, (up_over k e).0, (both_true k.watchdogs.acknowledged _ (up_over k e).1).1))
    (λ f. e)
acked_up b no_record k e = e
acked_up b (the_record n) k e = e

acked_awaited : (b : Bool) (s : Sent) (k : Life) → (acknowledges b s k).awaited ≡ k.awaited
acked_awaited b own_version k = picked (λ (x : Life). x.awaited ≡ k.awaited) b _ k (λ f. refl) (λ f. refl)
acked_awaited b own_watchdog k = picked (λ (x : Life). x.awaited ≡ k.awaited) b _ k (λ f. refl) (λ f. refl)
acked_awaited b no_record k = refl
acked_awaited b (the_record n) k = refl

pub acked_pass : (b : Bool) (s : Sent) (k : Life) → (acknowledges b s k).pass ≡ k.pass
acked_pass b own_version k = picked (λ (x : Life). x.pass ≡ k.pass) b _ k (λ f. refl) (λ f. refl)
acked_pass b own_watchdog k = picked (λ (x : Life). x.pass ≡ k.pass) b _ k (λ f. refl) (λ f. refl)
acked_pass b no_record k = refl
acked_pass b (the_record n) k = refl

-- our Version apart, no answer closes an Up link
abbrev pub NoVersion : Sent → Type 0
NoVersion own_version = ⊥
NoVersion own_watchdog = Unit {0}
NoVersion no_record = Unit {0}
NoVersion (the_record n) = Unit {0}

lasting : (k : Life) → is_up k ≡ true → (b : Bool) (s : Sent) → NoVersion s → answer_closes k b s ≡ false
lasting k e b own_version n = absurd n
lasting k e true own_watchdog n = refl
lasting k e false own_watchdog n = up_not_beating k e
lasting k e b no_record n = refl
lasting k e b (the_record i) n = refl

-- ---- the pool
abbrev pub marked_by : Sent → List Held → List Held
marked_by s hs = maybe hs (λ n. map (marked n) hs) (carried s)

abbrev pub settled_by : ℕ → Sent → List Held → List Held
settled_by l s hs = maybe hs (λ n. settled l n hs) (carried s)

module _ (m : Machine) where
  pub mark_held : (s : Sent) → (mark_sent s m).pool.held ≡ marked_by s m.pool.held
  mark_held own_version = refl
  mark_held own_watchdog = refl
  mark_held no_record = refl
  mark_held (the_record n) = refl

  mark_alarms : (s : Sent) → (mark_sent s m).alarms ≡ m.alarms
  mark_alarms own_version = refl
  mark_alarms own_watchdog = refl
  mark_alarms no_record = refl
  mark_alarms (the_record n) = refl

  settle_held : (l : ℕ) (s : Sent) → (settle l s m).pool.held ≡ settled_by l s m.pool.held
  settle_held l own_version = refl
  settle_held l own_watchdog = refl
  settle_held l no_record = refl
  settle_held l (the_record n) = refl

  settle_alarms : (l : ℕ) (s : Sent) → (settle l s m).alarms ≡ m.alarms
  settle_alarms l own_version = refl
  settle_alarms l own_watchdog = refl
  settle_alarms l no_record = refl
  settle_alarms l (the_record n) = refl

-- ---- the round
module _ {start : Start} {h : List Past} {m : Machine} (r : Run start h m) (l : ℕ) (configured : l < m.setup.links) (up : is_up (life_at m l) ≡ true)
    (alone : (life_at m l).awaited ≡ []) (t room s place : ℕ) (random other bytes : Bytes) (j : Json) (round : IsRound l m t room random s place bytes j) (d : Due)
    (is : due m l t ≡ some d) where
  abbrev pub pumped : Machine
  pumped = (step m (at t (pump l random room))).1

  can : CanPump m l t random room
  can = record { configured = configured; roomy = round.roomy; timely = round.timely; few = rw alone (omega arith); unawaited = rw alone }

  both_parts : step m (at t (pump l random room)) ≡ (done (due_message m t (own_identity random) d ∷ []) [] none [], after t (sends l t (own_identity random) m d))
  both_parts = sends_first_due m l t room random d can is

  pub pumped_gave : (step m (at t (pump l random room))).0 ≡ done (due_message m t (own_identity random) d ∷ []) [] none []
  pumped_gave = ap (λ (x : Outcome × Machine). x.0) both_parts

  pumped_is : pumped ≡ after t (sends l t (own_identity random) m d)
  pumped_is = ap (λ (x : Outcome × Machine). x.1) both_parts

  there : l < length m.lives
  there = is_there l m.lives (up_connected (life_at m l) up)

  abbrev sent_life : Life
  sent_life = awaiting (own_identity random) t (sent_as m l d) (after_sending t d (life_at m l))

  pumped_life : life_at pumped l ≡ sent_life
  unfolding sends
  pumped_life =
      rw (pumped_is, mark_lives (sent_as m l d) m) (set_at l sent_life (fresh false) m.lives there)

  pumped_held : pumped.pool.held ≡ marked_by (sent_as m l d) m.pool.held
  unfolding sends
  pumped_held = rw pumped_is (mark_held m (sent_as m l d))

  pumped_alarms : pumped.alarms ≡ m.alarms
  unfolding sends
  pumped_alarms = rw pumped_is (mark_alarms m (sent_as m l d))

  abbrev awaited_one : Awaited
  awaited_one = record { identity = own_identity random; time = t; message = sent_as m l d }

  pub pumped_awaited : (life_at pumped l).awaited ≡ awaited_one ∷ []
  pumped_awaited = rw (pumped_life, sent_awaited t d (life_at m l), alone)

  pumped_up : is_up (life_at pumped l) ≡ true
  pumped_up = rw pumped_life (sent_up t d (life_at m l) up)

  pub pumped_run : Run start (past m (at t (pump l random room)) ∷ h) pumped
  pumped_run = next (at t (pump l random room)) r

  module _ (no_version : NoVersion (sent_as m l d)) where
    abbrev pub answered : Machine
    answered = (step pumped (at s (packet l other bytes place))).1

    links : l < pumped.setup.links
    links = rw (same_setup r (at t (pump l random room))) configured

    lasts : answer_closes (life_at pumped l) (is_type "MessageAck" j) (sent_as m l d) ≡ false
    lasts = lasting (life_at pumped l) pumped_up (is_type "MessageAck" j) (sent_as m l d) no_version

    abbrev acked_life : Life
    acked_life = acknowledges (is_type "MessageAck" j) (sent_as m l d) (life_at pumped l)

    answered_is : answered ≡ after s (only (with_life l (answered_to (string_of "oMId" j) acked_life) (settle l (sent_as m l d) pumped)))
    answered_is =
        ap (λ (x : Outcome × Machine). x.1) (step_done pumped (at s (packet l other bytes place))
        (answer_number pumped l s place other bytes j round.arrives links (up_connected (life_at pumped l) pumped_up) (run_limit pumped_run) awaited_one pumped_awaited round.is_answer_lem round.answers lasts))
        ∙ ap (after s) (answer_lays pumped l s place other bytes j round.arrives links (up_connected (life_at pumped l) pumped_up) (run_limit pumped_run) awaited_one pumped_awaited round.is_answer_lem round.answers lasts)

    answered_life : life_at answered l ≡ answered_to (string_of "oMId" j) acked_life
    answered_life =
        rw (answered_is, settle_lives l (sent_as m l d) pumped)
        (set_at l (answered_to (string_of "oMId" j) acked_life) (fresh false) pumped.lives (is_there l pumped.lives (up_connected (life_at pumped l) pumped_up)))

    pub answered_up : is_up (life_at answered l) ≡ true
    answered_up = rw answered_life (acked_up (is_type "MessageAck" j) (sent_as m l d) (life_at pumped l) pumped_up)

    pub answered_alone : (life_at answered l).awaited ≡ []
    answered_alone =
        rw (
          answered_life,
          acked_awaited (is_type "MessageAck" j) (sent_as m l d) (life_at pumped l),
          pumped_awaited,
          its_own pumped l s (own_identity other) j awaited_one pumped_awaited round.is_answer_lem round.answers,
        )

    pub answered_pass : (life_at answered l).pass ≡ (after_sending t d (life_at m l)).pass
    answered_pass = rw (answered_life, acked_pass (is_type "MessageAck" j) (sent_as m l d) (life_at pumped l), pumped_life)

    pub answered_held : answered.pool.held ≡ settled_by l (sent_as m l d) (marked_by (sent_as m l d) m.pool.held)
    answered_held = rw answered_is (settle_held pumped l (sent_as m l d) ∙ ap (settled_by l (sent_as m l d)) pumped_held)

    pub answered_alarms : answered.alarms ≡ m.alarms
    answered_alarms = rw answered_is (settle_alarms pumped l (sent_as m l d) ∙ pumped_alarms)

    pub answered_setup : answered.setup ≡ m.setup
    answered_setup = same_setup pumped_run (at s (packet l other bytes place)) ∙ same_setup r (at t (pump l random room))
