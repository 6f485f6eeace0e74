-- Pump.
-- Assumes nothing.
use Rattle.std.specs.Prelude.{ℕ, List}
use Rattle.identity.specs.declared.Identity.{Identity}
use Rattle.call_laws.specs.Calls.{Call}
use Rattle.call_laws.specs.Calls.Call.{pump}
use Rattle.refine_calls.specs.Calls.{SameFor}

pub data OfPump : Call → Type 0 where
  pumps : (l t : ℕ) (random : Identity) (out : List ℕ) → OfPump (pump l t random out)

abbrev pub PumpCalls : Type 0
PumpCalls = SameFor OfPump
