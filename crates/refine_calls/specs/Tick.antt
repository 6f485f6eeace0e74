-- A tick is the machine's. A statement only: its proof is `tick_calls`.
-- Assumes nothing.
use Rattle.std.specs.Prelude.{ℕ}
use Rattle.call_laws.specs.Calls.{Call}
use Rattle.call_laws.specs.Calls.Call.{tick}
use Rattle.refine_calls.specs.Calls.{SameFor}

pub data OfTick : Call → Type 0 where
  of_tick : (t : ℕ) → OfTick (tick t)

abbrev pub TickCalls : Type 0
TickCalls = SameFor OfTick
