-- On an Up link a Watchdog goes out a period or more after the last, and not sooner.
-- Assumes nothing.
use Rattle.basis.proofs.Std.{ℕ, ◌+◌, ◌*◌, ◌≤◌, ◌≡◌, refl, sym, ◌∙◌, ap, subst, Bool, true, false, List, [], ◌∷◌, Option, some, none, eqb, ltb, leb, arith, le-leb, leb-true, Among, picked, both_true}
use Rattle.basis.specs.Lists.Among.{first}
use Rattle.write_message.specs.Message.{Message}
use Rattle.write_message.specs.Message.Message.{watchdog}
use Rattle.machine.specs.Words.{Bytes}
use Rattle.machine.specs.State.{Sent, Life, fresh, Start, Machine, life_at, Act, Outcome, Effect, only}
use Rattle.machine.specs.State.Sent.{own_version, own_watchdog, no_record, the_record}
use Rattle.machine.specs.State.Act.{connect, pump}
use Rattle.machine.specs.Life.{is_over, is_up, oldest_unsent, pass_length, Due, due_up, due}
use Rattle.machine.specs.Life.Due.{the_version, the_watchdog, the_aggregated, the_alarm, the_held}
use Rattle.machine.specs.Effects.{own_identity, due_message, after_sending, acknowledges, sends, effect_of}
use Rattle.machine.specs.Step.{step}
use Rattle.machine.specs.Run.{Past, past, Run}
use Rattle.demand_held.proofs.Lists.{maybe_cases}
use Rattle.demand_held.proofs.Steps.{step_done, step_refused}
use Rattle.demand_told.specs.Demand.{messages_of}
use Rattle.demand_told.specs.Life.{going_on, this_life}
use Rattle.demand_told.specs.Greeted.{IsWatchdog, Wrote}
use Rattle.demand_told.specs.Greeted.IsWatchdog.{is_watchdog}
use Rattle.demand_told.specs.Greeted.Wrote.{wrote}
use Rattle.demand_told.proofs.Replies.{nobody}
use Rattle.demand_told.proofs.GreetedDemand.{by_number}
use Rattle.demand_happens.specs.Pumped.{at}
use Rattle.demand_happens.proofs.Pumped.{pumping}
use Rattle.demand_taken.specs.Beats.{LastBeat, DemandBeats}
use Rattle.demand_taken.specs.Beats.LastBeat.{just_now, before}
use Rattle.demand_taken.proofs.Moves.{Turned}
use Rattle.demand_taken.proofs.Moves.Turned.{sent, answered_by, turned_down, accepted, beaten, taken, replied, responded}
use Rattle.demand_taken.proofs.Lived.{Elsewhere, Goes, by_life}
use Rattle.demand_taken.proofs.Said.{one_kind, watchdog_kind, Silent, silent_none, silent_one, silent_two, record_kind, reply_kind, response_kind, no_watchdog_in, wrote_elsewhere}

-- ---- the last Watchdog of a life
never : {l time : ℕ} {life : List Past} → LastBeat l time life → life ≡ [] → ⊥
never (just_now w e) f = let z : ◌≡◌ {A = ℕ} 0 1 = cc in omega arith
never (before n r) f = let z : ◌≡◌ {A = ℕ} 0 1 = cc in omega arith

-- this call wrote it, or none in this call
data Latest (l time : ℕ) (p : Past) (life : List Past) : Type 0 where
  here : {id : Bytes} → Wrote l (IsWatchdog id) p life → p.call.time ≡ time → Latest l time p life
  back : ((id : Bytes) → Wrote l (IsWatchdog id) p life → ⊥) → LastBeat l time life → Latest l time p life

latest_of : {l time : ℕ} (p : Past) (life : List Past) → LastBeat l time (going_on p life) → Latest l time p life
latest_of p [] b = absurd (never b refl)
latest_of p (q ∷ life) (just_now w e) = here w e
latest_of p (q ∷ life) (before n r) = back n r

module _ (l : ℕ) where
  abbrev Beat : Life → List Past → Type 0
  Beat k life = (time : ℕ) → LastBeat l time life → k.beat ≡ time

  opened : (p : Past) → p.call.act ≡ connect l → messages_of p.gave ≡ [] → Beat (fresh true) (p ∷ [])
  opened p is gave time (just_now w e) = absurd (no_watchdog_in gave silent_none w)
  opened p is gave time (before n r) = absurd (never r refl)

  elsewhere : (k : Life) (life : List Past) (p : Past) → Elsewhere l p → Beat k life → Beat k (going_on p life)
  elsewhere k life p e holds time b = go (latest_of p life b)
    where
      go : Latest l time p life → k.beat ≡ time
      go (here w f) = absurd (wrote_elsewhere e w)
      go (back n r) = holds time r

  module _ (m : Machine) (p : Past) (life : List Past) (holds : Beat (life_at m l) life) (time : ℕ) where
    quietly : {ms : List Message} → messages_of p.gave ≡ ms → Silent ms → (x : Life) → x.beat ≡ (life_at m l).beat → Latest l time p life → x.beat ≡ time
    quietly gave silent x same (here w f) = absurd (no_watchdog_in gave silent w)
    quietly gave silent x same (back n r) = same ∙ holds time r

    acked_beat : (is_ack : Bool) (message : Sent) → (acknowledges is_ack message (life_at m l)).beat ≡ (life_at m l).beat
    acked_beat true own_version = refl
    acked_beat false own_version = refl
    acked_beat true own_watchdog = refl
    acked_beat false own_watchdog = refl
    acked_beat is_ack no_record = refl
    acked_beat is_ack (the_record n) = refl

    pumped : {random : Bytes} {room : ℕ} (d : Due) → p.call.act ≡ pump l random room → messages_of p.gave ≡ due_message m p.call.time (own_identity random) d ∷ []
        → Latest l time p life → (after_sending p.call.time d (life_at m l)).beat ≡ time
    pumped {random} the_version is gave (here (wrote {w} on a q) f) =
        absurd (omega (arith, watchdog_kind q, one_kind (due_message m p.call.time (own_identity random) the_version) refl (subst (Among w) gave a)))
    pumped the_version is gave (back n r) = holds time r
    pumped the_watchdog is gave (here w f) = f
    pumped {random} the_watchdog is gave (back n r) =
        absurd (n (own_identity random) (wrote {w = watchdog (own_identity random) p.call.time} (rw is) (rw gave first) is_watchdog))
    pumped {random} the_aggregated is gave q = quietly gave (silent_one (due_message m p.call.time (own_identity random) the_aggregated) refl) (life_at m l) refl q
    pumped {random} (the_alarm i) is gave q = quietly gave (silent_one (due_message m p.call.time (own_identity random) (the_alarm i)) refl) (life_at m l) refl q
    pumped {random} (the_held h) is gave q = quietly gave (silent_one (due_message m p.call.time (own_identity random) (the_held h)) (record_kind m.setup.table (own_identity random) h.content)) (life_at m l) refl q

    turns : (act : Act) (ms : List Message) (x : Life) → Turned m p.call.time l act ms x → p.call.act ≡ act → messages_of p.gave ≡ ms → Latest l time p life → x.beat ≡ time
    turns act ms x (sent {d = d} e) is gave q = pumped d is gave q
    turns act ms x (answered_by {j = j} {a = a} read e f) is gave q = quietly gave silent_none x (acked_beat _ a.message) q
    turns act ms x (turned_down reason read) is gave q = quietly gave (silent_one _ refl) x refl q
    turns act ms x (accepted read e f) is gave q = quietly gave (silent_one _ refl) x refl q
    turns act ms x (beaten read e) is gave q = quietly gave (silent_one _ refl) x refl q
    turns act ms x (taken read e) is gave q = quietly gave (silent_one _ refl) x refl q
    turns act ms x (replied {random} {j = j} n read e up) is gave q = quietly gave (silent_two _ _ refl (reply_kind n p.call.time (own_identity random) j)) x refl q
    turns act ms x (responded {j = j} n read e) is gave q = quietly gave (silent_one _ (response_kind n p.call.time j)) x refl q

  goes : (s : Start) (h : List Past) (m : Machine) (p : Past) (x : Life) → Goes s l h m p x → Beat (life_at m l) (this_life l h) → Beat x (going_on p (this_life l h))
  goes s h m p x g holds time b = turns m p (this_life l h) holds time p.call.act (messages_of p.gave) x g.turned refl refl (latest_of p (this_life l h) b)

  run_beat : {s : Start} {h : List Past} {m : Machine} → Run s h m → Beat (life_at m l) (this_life l h)
  run_beat {s} r = by_life s l Beat (λ time b. absurd (never b refl)) opened elsewhere (goes s) r

-- ---- a pump on an Up link
module _ (m : Machine) (l t : ℕ) (up : is_up (life_at m l) ≡ true) where
  phase : ((life_at m l).connected ≡ true) × (is_over (life_at m l).versions ≡ true) × (is_over (life_at m l).watchdogs ≡ true)
  phase =
      let a = both_true (life_at m l).connected _ up in
      let b = both_true (is_over (life_at m l).versions) _ a.1 in
      (a.0, b.0, b.1)

  due_in_up : due m l t ≡ due_up m l t (life_at m l)
  unfolding due
  due_in_up = rw (phase.0, phase.1, phase.2)

  due_watchdog : (life_at m l).beat + 1000 * m.setup.period ≤ t → due m l t ≡ some the_watchdog
  unfolding due_up
  due_watchdog h = rw (due_in_up, le-leb ((life_at m l).beat + 1000 * m.setup.period) t h)

  -- no other that is due in Up is a Watchdog
  abbrev Sooner : Option Due → Type 0
  Sooner o = o ≡ some the_watchdog → (life_at m l).beat + 1000 * m.setup.period ≤ t

  when_due : Sooner (due_up m l t (life_at m l))
  unfolding due_up
  when_due =
      picked Sooner (leb ((life_at m l).beat + 1000 * m.setup.period) t) _ _ (λ e f. leb-true ((life_at m l).beat + 1000 * m.setup.period) t e)
      (λ e. picked Sooner (eqb (life_at m l).pass 0) _ _ (λ g f. absurd (let z : ◌≡◌ {A = ℕ} 0 1 = cc in omega arith))
      (λ g. picked Sooner (ltb (life_at m l).pass (pass_length m l)) _ _ (λ i f. absurd (let z : ◌≡◌ {A = ℕ} 0 1 = cc in omega arith))
      (λ i. maybe_cases Sooner none _ (oldest_unsent m l) (λ n f. absurd (let z : ◌≡◌ {A = ℕ} 0 1 = cc in omega arith)) (λ x n f. absurd (let z : ◌≡◌ {A = ℕ} 0 1 = cc in omega arith)))))

  module _ (random : Bytes) (id : Bytes) where
    is_due : (d : Due) {w : Message} → due m l t ≡ some d → IsWatchdog id w → Among w (due_message m t (own_identity random) d ∷ []) → (life_at m l).beat + 1000 * m.setup.period ≤ t
    is_due the_version e q a = absurd (omega (arith, watchdog_kind q, one_kind (due_message m t (own_identity random) the_version) refl a))
    is_due the_watchdog e q a = when_due (sym due_in_up ∙ e)
    is_due the_aggregated e q a = absurd (omega (arith, watchdog_kind q, one_kind (due_message m t (own_identity random) the_aggregated) refl a))
    is_due (the_alarm i) e q a = absurd (omega (arith, watchdog_kind q, one_kind (due_message m t (own_identity random) (the_alarm i)) refl a))
    is_due (the_held h) e q a =
        absurd (omega (arith, watchdog_kind q, one_kind (due_message m t (own_identity random) (the_held h)) (record_kind m.setup.table (own_identity random) h.content) a))

    abbrev InTime : Message → List Message → Type 0
    InTime w ms = Among w ms → (life_at m l).beat + 1000 * m.setup.period ≤ t

    laid_in_time : (room : ℕ) {w : Message} → IsWatchdog id w → InTime w (effect_of m t (pump l random room)).messages
    unfolding effect_of sends
    laid_in_time room {w} q =
        maybe_cases (λ (e : Effect). InTime w e.messages) (only m) _ (due m l t) (λ e a. absurd (nobody a)) (λ d e a. is_due d e q a)

    in_time : (room : ℕ) {w : Message} → IsWatchdog id w → InTime w (messages_of (step m (at t (pump l random room))).0)
    in_time room {w} q =
        by_number m (at t (pump l random room))
        (λ e. rw (step_done m (at t (pump l random room)) e) (laid_in_time room q))
        (λ n e. rw (step_refused m (at t (pump l random room)) n e) (λ a. absurd (nobody a)))

no_sooner : (m : Machine) (l t room : ℕ) (random id : Bytes) (life : List Past) → is_up (life_at m l) ≡ true → Wrote l (IsWatchdog id) (past m (at t (pump l random room))) life
    → (life_at m l).beat + 1000 * m.setup.period ≤ t
no_sooner m l t room random id life up (wrote on a q) = in_time m l t up random id room q a

pub demand_beats : DemandBeats
demand_beats =
    record {
      beats = λ s h m r l t room random can up time b late.
          ap (λ (o : Outcome × Machine). o.0) (pumping.sends_first_due m l t room random the_watchdog can (due_watchdog m l t up (omega (arith, late, run_beat l r time b))));
      no_sooner = λ s h m r l t room random up time b id w. omega (arith, no_sooner m l t room random id (this_life l h) up w, run_beat l r time b);
    }
