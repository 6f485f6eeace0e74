-- "Due in Up, in this order: Watchdog a period or more after the last".
-- Assumes nothing.
use Rattle.std.specs.Prelude.{ℕ, ◌+◌, ◌*◌, ◌≤◌, ◌≡◌, true, List, [], ◌∷◌}
use Rattle.std.proofs.Math.Option.{none}
use Rattle.write_message.specs.Message.Message.{watchdog}
use Rattle.machine.specs.Words.{Bytes}
use Rattle.machine.specs.State.{Start, Machine, life_at}
use Rattle.machine.specs.State.Act.{pump}
use Rattle.machine.specs.State.Outcome.{done}
use Rattle.machine.specs.Life.{is_up}
use Rattle.machine.specs.Effects.{own_identity}
use Rattle.machine.specs.Step.{step}
use Rattle.machine.specs.Run.{Past, past, Run}
use Rattle.demand_told.specs.Life.{this_life}
use Rattle.demand_told.specs.Greeted.{IsWatchdog, Wrote}
use Rattle.demand_happens.specs.Pumped.{at, CanPump}

-- the last Watchdog of ours on link l in a life went out at this time
pub data LastBeat (l : ℕ) (time : ℕ) : List Past → Type 0 where
  just_now : {p : Past} {life : List Past} {id : Bytes} → Wrote l (IsWatchdog id) p life → p.call.time ≡ time → LastBeat l time (p ∷ life)
  before : {p : Past} {life : List Past} → ((id : Bytes) → Wrote l (IsWatchdog id) p life → ⊥) → LastBeat l time life → LastBeat l time (p ∷ life)

pub record DemandBeats : Type 0 where
  -- on an Up link a pump a period or more after it is a Watchdog
  pub beats : (s : Start) (h : List Past) (m : Machine) → Run s h m → (l t room : ℕ) (random : Bytes) → CanPump m l t random room → is_up (life_at m l) ≡ true
      → (time : ℕ) → LastBeat l time (this_life l h) → time + 1000 * m.setup.period ≤ t
      → (step m (at t (pump l random room))).0 ≡ done (watchdog (own_identity random) t ∷ []) [] none []
  -- and none is sooner
  pub no_sooner : (s : Start) (h : List Past) (m : Machine) → Run s h m → (l t room : ℕ) (random : Bytes) → is_up (life_at m l) ≡ true
      → (time : ℕ) → LastBeat l time (this_life l h) → (id : Bytes) → Wrote l (IsWatchdog id) (past m (at t (pump l random room))) (this_life l h)
      → time + 1000 * m.setup.period ≤ t
