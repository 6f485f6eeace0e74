use mathlib.Core.Path.{◌≡◌}
use Prim.Native.Nat.{◌%◌, ◌^◌}
use lib.ListN.{take, replicate}
use Rattle.bits.specs.Fields.{joined}
use Rattle.bits.proofs.number.Given as goal

abbrev pub invariant-loop-b : goal.invariant-loop-b
invariant-loop-b l = l.n ≡ joined 0 (replicate l.b-index 8) (take l.b-index l.s) % 2 ^ 64
