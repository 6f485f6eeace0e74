-- Calls that no number refuses.
-- Assumes nothing.
use Rattle.basis.proofs.Std.{ℕ, ◌<◌, ◌≡◌, true, false, some, none, length, arith, le-ltb, lt-leb, bool_cases}
use Rattle.answer.specs.Times.{last_time}
use Rattle.machine.specs.Words.{Bytes}
use Rattle.machine.specs.State.{Machine, life_at}
use Rattle.machine.specs.State.Act.{pump}
use Rattle.machine.specs.Life.{Due, due}
use Rattle.machine.specs.Step.{no_such_link, bad_time, is_down_at, conditions, number_of}
use Rattle.demand_happens.specs.Pumped.{at, Timely, CanPump}

pub configured_link : (m : Machine) (l : ℕ) → l < m.setup.links → no_such_link m l ≡ false
configured_link m l h = lt-leb m.setup.links l h

pub good_time : (m : Machine) (t : ℕ) → Timely m t → bad_time m t ≡ false
good_time m t h = rw (le-ltb t m.last h.in_order, le-ltb last_time t h.in_range_lem)

down_none : (m : Machine) (l t : ℕ) → (life_at m l).connected ≡ false → due m l t ≡ none
unfolding due
down_none m l t e = rw e

pub due_connected : (m : Machine) (l t : ℕ) (d : Due) → due m l t ≡ some d → (life_at m l).connected ≡ true
due_connected m l t d f =
    bool_cases (life_at m l).connected (λ e. e)
    (λ e. let n : due m l t ≡ none = down_none m l t e in absurd (let z : ◌≡◌ {A = ℕ} 0 1 = cc in omega arith))

pub not_down : (m : Machine) (l : ℕ) → (life_at m l).connected ≡ true → is_down_at m l ≡ false
not_down m l e = rw e

pub pump_unrefused : (m : Machine) (l t room : ℕ) (random : Bytes) (d : Due) → CanPump m l t random room → due m l t ≡ some d → number_of m (at t (pump l random room)) ≡ none
unfolding conditions
pump_unrefused m l t room random d can f =
    rw (
      configured_link m l can.configured,
      le-ltb room 4096 can.roomy,
      good_time m t can.timely,
      not_down m l (due_connected m l t d f),
      f,
      lt-leb 8 (length (life_at m l).awaited) can.few,
      can.unawaited,
    )
