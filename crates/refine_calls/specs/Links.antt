-- Connect and disconnect.
-- Assumes nothing.
use Rattle.std.specs.Prelude.{ℕ}
use Rattle.call_laws.specs.Calls.{Call}
use Rattle.call_laws.specs.Calls.Call.{connect, disconnect}
use Rattle.refine_calls.specs.Calls.{SameFor}

pub data OfLink : Call → Type 0 where
  connects : (l t : ℕ) → OfLink (connect l t)
  disconnects : (l t : ℕ) → OfLink (disconnect l t)

abbrev pub LinkCalls : Type 0
LinkCalls = SameFor OfLink
