use Rattle.basis.proofs.Std.{◌+◌, ◌≡◌, ◌≤◌, drop}
use Rattle.csv_field.specs.Marks.{breaks}
use Rattle.csv_field.proofs.count_breaks.Given as goal

abbrev pub invariant-loop-i : goal.invariant-loop-i
invariant-loop-i l = (l.n ≤ l.i) × (l.n + breaks (drop l.i l.t) ≡ breaks l.t)
