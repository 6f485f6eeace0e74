-- `store_table::rows::row` meets its contract.
-- Assumes nothing.
use Rattle.store_table.proofs.RowLaws.{item_at_lem, item_behind}
use Rattle.basis.proofs.Std.{◌∙◌, rules}
use Rattle.store_table.proofs.rows.row.Goals as goal

pub returns-then-k-n : goal.returns-then-k-n
returns-then-k-n c =
    c.item_at.ensures ∙ item_at_lem c.args.t.now c.args.i c.args.k c.args.n (search rules)

pub returns-else-k-n : goal.returns-else-k-n
returns-else-k-n c =
    c.none.ensures ∙ item_behind c.args.t.now c.args.i c.args.k c.args.n (search rules)
