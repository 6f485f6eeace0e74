use Rattle.basis.proofs.Std.{◌-◌, length}
use Rattle.csv_field.proofs.Lines.{Reached}
use Rattle.csv_field.proofs.take_line.Given as goal

abbrev pub invariant-loop-f : goal.invariant-loop-f
invariant-loop-f l = Reached l.s l.at l.notes l.i

abbrev pub decreases-loop-f : goal.decreases-loop-f
decreases-loop-f l = length l.s - l.i
