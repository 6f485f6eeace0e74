-- `store_table::rows::label_at` meets its contract.
-- Assumes nothing.
use Rattle.store_table.proofs.RowLaws.{label_get}
use Rattle.basis.proofs.Std.{rules}
use Rattle.store_table.proofs.rows.label_at.Goals as goal

pub returns : goal.returns
returns c =
    label_get c.args.t.now c.args.i c.of-part.result (search rules) c.of-part.ensures
