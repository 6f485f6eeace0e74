-- `json_find::four` meets its contract.
-- Assumes nothing.
use Rattle.basis.proofs.Std.{◌-◌, length}
use Rattle.json_find.proofs.Once.{Walked}
use Rattle.json_find.proofs.four.Given as goal

abbrev pub invariant-loop-v : goal.invariant-loop-v
invariant-loop-v l = Walked l.s l.at l.i l.first l.second l.third l.fourth l.found

abbrev pub decreases-loop-v : goal.decreases-loop-v
decreases-loop-v l = length l.s - l.i
