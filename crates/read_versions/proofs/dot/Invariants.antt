use Rattle.read_versions.proofs.Dots.{Undotted}
use Rattle.read_versions.proofs.dot.Given as goal

abbrev pub invariant-loop-i : goal.invariant-loop-i
invariant-loop-i l = Undotted l.s l.i
