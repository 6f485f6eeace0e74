-- `store_table::rows::label_is` meets its contract.
-- Assumes nothing.
use Rattle.store_table.proofs.RowLaws.{text_is}
use Rattle.basis.proofs.Std.{same_is, rules}
use Rattle.store_table.proofs.rows.label_is.Goals as goal

pub returns : goal.returns
returns c =
    let n = c.min in
    let k = text_is c.args.t.now c.args.i n.result (search rules) (search rules) in
    let e = c.same.ensures in
    rw (← k) (same_is _ _ c.same.result e.0 e.1)
