-- `json_value::space` meets its contract.
-- Assumes nothing.
use Rattle.basis.proofs.Std.{◌≡◌, drop}
use Rattle.json_value.specs.Reader.{skip_ws}
use Rattle.json_value.proofs.space.Given as goal

abbrev pub invariant-loop-i : goal.invariant-loop-i
invariant-loop-i l = skip_ws (drop l.at l.s) ≡ skip_ws (drop l.i l.s)
