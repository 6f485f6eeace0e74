-- `store_table::rows::item_at` meets its contract.
-- Assumes nothing.
use Rattle.store_table.proofs.RowLaws.{item_get}
use Rattle.store_table.proofs.rows.item_at.Goals as goal

pub returns : goal.returns
returns c =
    item_get c.args.t.now c.args.i c.label_at-code.ensures c.label_at-name.ensures c.count_at.ensures c.count_at-2.ensures
