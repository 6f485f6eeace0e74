-- Pump sends the first due.
-- Assumes nothing.
use Rattle.basis.proofs.Std.{ℕ, ◌≡◌, refl, [], ◌∷◌, some, none, arith}
use Rattle.machine.specs.Words.{Bytes}
use Rattle.machine.specs.State.{Machine}
use Rattle.machine.specs.State.Act.{pump}
use Rattle.machine.specs.State.Outcome.{done}
use Rattle.machine.specs.Life.{Due, carried_by, due_up, due}
use Rattle.machine.specs.Effects.{own_identity, due_message, sends, effect_of}
use Rattle.machine.specs.Step.{conditions, after, step}
use Rattle.demand_held.proofs.Steps.{step_done}
use Rattle.demand_happens.specs.Pumped.{at, CanPump, Pumping}
use Rattle.demand_happens.proofs.Done.{pump_unrefused}

pub pump_effect : (m : Machine) (l t room : ℕ) (random : Bytes) (d : Due) → due m l t ≡ some d → effect_of m t (pump l random room) ≡ sends l t (own_identity random) m d
unfolding effect_of
pump_effect m l t room random d f = rw f

pub sends_first_due : (m : Machine) (l t room : ℕ) (random : Bytes) (d : Due) → CanPump m l t random room → due m l t ≡ some d
    → step m (at t (pump l random room)) ≡ (done (due_message m t (own_identity random) d ∷ []) [] none [], after t (sends l t (own_identity random) m d))
unfolding sends
sends_first_due m l t room random d can f =
    rw (step_done m (at t (pump l random room)) (pump_unrefused m l t room random d can f), pump_effect m l t room random d f)

pub pumping : Pumping
unfolding due due_up carried_by sends effect_of conditions step
pumping =
    record {
      sends_first_due = sends_first_due;
      can = record { configured = omega arith; roomy = omega arith; timely = record { in_order = omega arith; in_range_lem = omega arith }; few = omega arith; unawaited = refl };
      is_due = refl;
      sends = refl;
    }
