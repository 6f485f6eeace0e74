use Rattle.basis.proofs.Std.{◌-◌, ◌≡◌}
use Rattle.table_item.specs.Find.{first_from, label_at}
use Rattle.store_table.specs.Layout.{labels_in}
use Rattle.store_table.proofs.finds.label.Given as goal

abbrev pub invariant-loop-k : goal.invariant-loop-k
invariant-loop-k l = first_from (label_at (labels_in l.t l.i) l.text) 0 l.count ≡ first_from (label_at (labels_in l.t l.i) l.text) l.k (l.count - l.k)
