use Rattle.basis.proofs.Std.{◌-◌, ◌≡◌}
use Rattle.table_item.specs.Find.{first_from, item_at}
use Rattle.store_table.specs.Layout.{items_in}
use Rattle.store_table.proofs.finds.item.Given as goal

abbrev pub invariant-loop-k : goal.invariant-loop-k
invariant-loop-k l =
    first_from (item_at (items_in l.t l.i l.n) l.component l.code l.name) 0 l.count ≡ first_from (item_at (items_in l.t l.i l.n) l.component l.code l.name) l.k (l.count - l.k)
