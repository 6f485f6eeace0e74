use Rattle.basis.proofs.Std.{◌+◌, ◌≡◌, drop}
use Rattle.csv_field.specs.Marks.{line_run}
use Rattle.csv_field.proofs.line_end.Given as goal

abbrev pub invariant-loop-i : goal.invariant-loop-i
invariant-loop-i l = l.i + line_run (drop l.i l.s) ≡ l.at + line_run (drop l.at l.s)
