-- `json_text::plain` meets its contract.
-- Assumes nothing.
use Rattle.basis.proofs.Std.{◌+◌, ◌≡◌, drop}
use Rattle.json_text.specs.Run.{run}
use Rattle.json_text.proofs.plain.Given as goal

abbrev pub invariant-loop-i : goal.invariant-loop-i
invariant-loop-i l = l.i + run (drop l.i l.s) ≡ l.at + run (drop l.at l.s)
