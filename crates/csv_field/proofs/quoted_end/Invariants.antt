use Rattle.basis.proofs.Std.{◌-◌, ◌+◌, ◌≡◌, false, length, drop}
use Rattle.csv_field.specs.Marks.{quoted_run}
use Rattle.csv_field.proofs.quoted_end.Given as goal

abbrev pub invariant-loop-i : goal.invariant-loop-i
invariant-loop-i l = l.i + quoted_run false (drop l.i l.s) ≡ l.at + quoted_run false (drop l.at l.s)

abbrev pub decreases-loop-i : goal.decreases-loop-i
decreases-loop-i l = length l.s - l.i
