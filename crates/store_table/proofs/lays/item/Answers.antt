-- `store_table::lays::item` meets its contract.
-- Assumes nothing.
use Rattle.basis.proofs.Std.{refl, arith}
use Rattle.store_table.specs.Layout.{item_bytes}
use Rattle.store_table.proofs.LayLaws.{then}
use Rattle.store_table.proofs.lays.item.Goals as goal

pub returns : goal.returns
unfolding item_bytes
returns c =
    then 73 c.label.ensures
    (then 40 c.label-2.ensures
    (then 7 c.three.ensures (then 4 c.count.ensures c.count-2.ensures (omega arith) refl) (omega arith) refl) (omega arith) refl) refl refl
