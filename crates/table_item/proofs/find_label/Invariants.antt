use Rattle.basis.proofs.Std.{◌-◌, ◌≡◌}
use Rattle.table_item.specs.Find.{first_from, label_at}
use Rattle.table_item.proofs.find_label.Given as goal

abbrev pub invariant-loop-i : goal.invariant-loop-i
invariant-loop-i l = first_from (label_at l.labels l.text) 0 l.count ≡ first_from (label_at l.labels l.text) l.i (l.count - l.i)
