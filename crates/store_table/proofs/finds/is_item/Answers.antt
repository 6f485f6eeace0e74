-- `store_table::finds::is_item` meets its contract.
-- Assumes nothing.
use Rattle.store_table.proofs.RowLaws.{item_at_lem, item_behind}
use Rattle.basis.proofs.Std.{rules}
use Rattle.store_table.proofs.finds.is_item.Goals as goal

pub returns-then-k-n : goal.returns-then-k-n
returns-then-k-n c =
    rw (← (item_at_lem c.args.t.now c.args.i c.args.k c.args.n (search rules))) c.item_is.ensures

pub returns-else-k-n : goal.returns-else-k-n
returns-else-k-n c =
    rw (← (item_behind c.args.t.now c.args.i c.args.k c.args.n (search rules)), ← c.none.ensures) c.is.ensures
