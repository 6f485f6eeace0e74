-- "Pump (sends the next due message, one at most)": with something due, few awaited and a fresh identity it does.
-- Assumes nothing.
use Rattle.std.specs.Prelude.{ℕ, ◌≤◌, ◌<◌, ◌≡◌, false, [], ◌∷◌, length}
use Rattle.std.proofs.Math.Option.{some, none}
use Rattle.basis.specs.Text.{text}
use Rattle.answer.specs.Times.{last_time}
use Rattle.write_message.specs.Message.Message.{aggregated}
use Rattle.machine.specs.Words.{Bytes}
use Rattle.machine.specs.State.{Machine, life_at, Act, Call}
use Rattle.machine.specs.State.Act.{pump}
use Rattle.machine.specs.State.Outcome.{done}
use Rattle.machine.specs.Life.{is_awaited, Due, due}
use Rattle.machine.specs.Life.Due.{the_aggregated}
use Rattle.machine.specs.Effects.{own_identity, due_message, sends}
use Rattle.machine.specs.Step.{after, step}
use Rattle.machine.specs.Example.{noon, random, own, pumped, says, up}

abbrev pub at : ℕ → Act → Call
at t act = record { time = t; act = act }

-- a time that number 5 does not refuse
pub record Timely (m : Machine) (t : ℕ) : Type 0 where
  pub in_order : m.last ≤ t
  pub in_range_lem : t ≤ last_time

-- a pump on a configured link, with its output, few awaited, and a fresh identity
pub record CanPump (m : Machine) (l t : ℕ) (random : Bytes) (room : ℕ) : Type 0 where
  pub configured : l < m.setup.links
  pub roomy : 4096 ≤ room
  pub timely : Timely m t
  pub few : length (life_at m l).awaited < 8
  pub unawaited : is_awaited (life_at m l) (own_identity random) ≡ false

pub record Pumping : Type 0 where
  pub sends_first_due : (m : Machine) (l t room : ℕ) (random : Bytes) (d : Due) → CanPump m l t random room → due m l t ≡ some d
      → step m (at t (pump l random room)) ≡ (done (due_message m t (own_identity random) d ∷ []) [] none [], after t (sends l t (own_identity random) m d))
  -- such a pump, computed
  pub can : CanPump up 0 noon (random 3) 4096
  pub is_due : due up 0 noon ≡ some the_aggregated
  pub sends : (step up (pumped 3)).0 ≡ says (aggregated (own 3) (text "C0") noon 0 ∷ [])
