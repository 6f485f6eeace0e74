-- Issuing while there is room looks at nothing beside the site, and changes nothing there.
-- Assumes nothing.
use Rattle.basis.proofs.Std.{ℕ, ◌+◌, ◌<◌, ◌≡◌, refl, sym, ap, ◌∙◌, Bool, true, false, List, [], ◌∷◌, Option, some, none, leb, length, arith, leb-false, lt-leb, pick}
use Rattle.machine.specs.State.{Issued, Share, no_share, Pool, with_beside, Machine, at_end, Act, Call, Outcome, Effect}
use Rattle.machine.specs.State.Outcome.{refused}
use Rattle.machine.specs.State.Act.{connect, disconnect, packet, alarm_input, status_value, aggregated_value, tick, pump}
use Rattle.machine.specs.Life.{due_up, due}
use Rattle.machine.specs.Answers.{is_ignored, reasons}
use Rattle.machine.specs.Pool.{holds, is_full, lose, make_room, added, issue, issue_all}
use Rattle.machine.specs.Effects.{effect_of}
use Rattle.machine.specs.Step.{sequence_ends, conditions, number_of, after, outcome, step}
use Rattle.machine.specs.Words.{Case, maybe, first_of}
use Rattle.machine.specs.Box.{NeverFull, RoomyCall, with_pool}
use Rattle.demand_apart.proofs.Natural.{w, on, effect_nat}

-- a record issued while there is room
room_is : (i : Issued) (p : Pool) → is_full p ≡ false → make_room i.link p ≡ pick (leb 64 (holds p i.link)) (lose i.link p) p
unfolding make_room
room_is i p e = rw e

issue_beside : (i : Issued) (p : Pool) → is_full p ≡ false → (issue i p).beside ≡ p.beside
unfolding issue lose
issue_beside i p e = ap (λ (q : Pool). q.beside) (room_is i p e) ∙ by (leb 64 (holds p i.link))
  where
    by : (b : Bool) → (pick b (lose i.link p) p).beside ≡ p.beside
    by true = refl
    by false = refl

module _ (s : Share) where
  issue_nat : (i : Issued) (p : Pool) → is_full p ≡ false → is_full (with_beside s p) ≡ false → issue i (with_beside s p) ≡ with_beside s (issue i p)
  unfolding issue lose
  issue_nat i p e f =
      ap (added i) (room_is i (with_beside s p) f) ∙ by (leb 64 (holds p i.link)) ∙ sym (ap (λ (q : Pool). with_beside s (added i q)) (room_is i p e))
    where
      by : (b : Bool) → added i (pick b (lose i.link (with_beside s p)) (with_beside s p)) ≡ with_beside s (added i (pick b (lose i.link p) p))
      by true = refl
      by false = refl

-- where nothing is beside it a pool is full no earlier
room_alone : (p : Pool) → is_full p ≡ false → is_full (with_beside no_share p) ≡ false
room_alone p e = let h : length p.held + length p.beside.held < 128 = leb-false 128 (length p.held + length p.beside.held) e in
    lt-leb 128 (length p.held + 0) (omega arith)

pub issues_beside : (is : List Issued) (p : Pool) → NeverFull is p → (issue_all is p).beside ≡ p.beside
issues_beside [] p r = refl
issues_beside (i ∷ is) p (e, r) = issues_beside is (issue i p) r ∙ issue_beside i p e

pub issues_alone : (is : List Issued) (p : Pool) → NeverFull is p → issue_all is (with_beside no_share p) ≡ with_beside no_share (issue_all is p)
issues_alone [] p r = refl
issues_alone (i ∷ is) p (e, r) = ap (issue_all is) (issue_nat no_share i p e (room_alone p e)) ∙ issues_alone is (issue i p) r

-- ---- the number, and the whole call
number_nat : (s : Share) (m : Machine) (t : ℕ) (act : Act) → first_of (conditions (w s m) t act) ≡ first_of (conditions m t act)
unfolding conditions reasons due due_up
number_nat s m t (connect l) = refl
number_nat s m t (disconnect l) = refl
number_nat s m t (packet l random bytes room) = rw (effect_nat s m t (packet l random bytes room))
number_nat s m t (alarm_input i active) = rw (effect_nat s m t (alarm_input i active))
number_nat s m t (status_value i v) = rw (effect_nat s m t (status_value i v))
number_nat s m t (aggregated_value v) = rw (effect_nat s m t (aggregated_value v))
number_nat s m t tick = rw (effect_nat s m t tick)
number_nat s m t (pump l random room) = refl

-- m with nothing beside it
abbrev pub alone : Machine → Machine
alone m = w no_share m

effect_beside : (m : Machine) (t : ℕ) (act : Act) → (effect_of m t act).leaves.pool.beside ≡ m.pool.beside
effect_beside m t act = ap (λ (e : Effect). e.leaves.pool.beside) (effect_nat m.pool.beside m t act)

step_as : (m : Machine) (c : Call) (o : Option ℕ) → number_of m c ≡ o
    → step m c ≡ maybe (outcome (effect_of m c.time c.act), after c.time (effect_of m c.time c.act)) (λ n. (refused n, m)) o
unfolding step
step_as m c o e = rw e

-- a call of m alone: the same outcome, and the machine that it leaves alone
pub step_alone : (m : Machine) (c : Call) → RoomyCall m c → step (alone m) c ≡ ((step m c).0, alone (step m c).1)
step_alone m c r = go (number_of m c) refl
  where
    E : Effect
    E = effect_of m c.time c.act

    both : Outcome × Machine → Outcome × Machine
    both x = (x.0, alone x.1)

    go : (o : Option ℕ) → number_of m c ≡ o → step (alone m) c ≡ ((step m c).0, alone (step m c).1)
    go (some n) e = step_as (alone m) c (some n) (number_nat no_share m c.time c.act ∙ e) ∙ ap both (sym (step_as m c (some n) e))
    go none e =
        step_as (alone m) c none (number_nat no_share m c.time c.act ∙ e)
        ∙ ap (λ (x : Effect). (outcome x, after c.time x)) (effect_nat no_share m c.time c.act)
        ∙ ap (λ (p : Pool). (outcome E, at_end c.time p E.leaves)) (issues_alone E.issues E.leaves.pool (r e))
        ∙ ap both (sym (step_as m c none e))

-- and what is beside it stays
pub stays_beside : (m : Machine) (c : Call) → RoomyCall m c → (step m c).1.pool.beside ≡ m.pool.beside
stays_beside m c r = go (number_of m c) refl
  where
    E : Effect
    E = effect_of m c.time c.act

    found : Outcome × Machine → Share
    found x = x.1.pool.beside

    go : (o : Option ℕ) → number_of m c ≡ o → (step m c).1.pool.beside ≡ m.pool.beside
    go (some n) e = ap found (step_as m c (some n) e)
    go none e = ap found (step_as m c none e) ∙ issues_beside E.issues E.leaves.pool (r e) ∙ effect_beside m c.time c.act
