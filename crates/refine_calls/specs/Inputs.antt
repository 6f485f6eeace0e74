-- The host's three inputs are the machine's. A statement only: its proof is `input_calls`.
-- Assumes nothing.
use Rattle.std.specs.Prelude.{ℕ, Bool, ℤ}
use Rattle.call_laws.specs.Calls.{Call}
use Rattle.call_laws.specs.Calls.Call.{alarm, status, aggregated}
use Rattle.refine_calls.specs.Calls.{SameFor}

pub data OfInput : Call → Type 0 where
  of_alarm : (i : ℕ) (active : Bool) (t : ℕ) → OfInput (alarm i active t)
  of_status : (i : ℕ) (v : ℤ) (t : ℕ) → OfInput (status i v t)
  of_aggregated : (v t : ℕ) → OfInput (aggregated v t)

abbrev pub InputCalls : Type 0
InputCalls = SameFor OfInput
