use Rattle.basis.proofs.Std.{◌≡◌, length}
use Rattle.table_row.specs.Rows.{labels_to}
use Rattle.table_row.proofs.read_labels.Given as goal

abbrev pub invariant-loop-i : goal.invariant-loop-i
invariant-loop-i l = (length l.labels ≡ 8) × (l.labels ≡ (labels_to l.s l.at l.i).labels) × (l.next ≡ (labels_to l.s l.at l.i).next)
