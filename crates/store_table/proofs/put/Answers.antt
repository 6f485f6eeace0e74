-- `store_table::put` meets its contract.
-- Assumes nothing.
use Rattle.basis.proofs.Std.{◌≡◌, arith, length, rules}
use Rattle.store_table.specs.Layout.{head_bytes, table_bytes}
use Rattle.store_table.proofs.LayLaws.{then, laid_whole}
use Rattle.store_table.proofs.put.Goals as goal

pub returns : goal.returns
unfolding head_bytes
returns c =
    let v = c.items-3.new.t in
    let e : length v ≡ table_bytes = search rules in
    let n : length c.args.x.components ≡ 8 = search rules in
    let m : length c.args.x.alarms ≡ 32 = search rules in
    let o : length c.args.x.statuses ≡ 32 = search rules in
    let q : length c.args.x.commands ≡ 16 = search rules in
    laid_whole c.args.t.now v c.args.x e
    (then table_bytes c.head.ensures
    (then 6104 c.labels.ensures
    (then 5840 c.items.ensures
    (then 3504 c.items-2.ensures c.items-3.ensures (omega arith) (omega arith)) (omega arith) (omega arith)) (omega arith) (omega arith)) (omega arith) (omega arith))
