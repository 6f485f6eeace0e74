use Rattle.basis.proofs.Std.{◌+◌, ◌≡◌, drop}
use Rattle.csv_field.specs.Marks.{plain_run}
use Rattle.csv_field.proofs.plain_end.Given as goal

abbrev pub invariant-loop-i : goal.invariant-loop-i
invariant-loop-i l = l.i + plain_run (drop l.i l.s) ≡ l.at + plain_run (drop l.at l.s)
