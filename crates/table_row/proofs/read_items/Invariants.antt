use Rattle.basis.proofs.Std.{◌≡◌, length}
use Rattle.table_row.specs.Rows.{items_to}
use Rattle.table_row.proofs.read_items.Given as goal

abbrev pub invariant-loop-i : goal.invariant-loop-i
invariant-loop-i l =
    (length l.items ≡ 32) × (l.items ≡ (items_to l.s l.kind l.components l.at l.i).items) × (l.next ≡ (items_to l.s l.kind l.components l.at l.i).next)
