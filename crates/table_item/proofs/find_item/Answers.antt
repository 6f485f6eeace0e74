use Rattle.basis.proofs.Std.{◌≡◌, false, rules}
use Rattle.table_item.specs.Find.{item_at}
use Rattle.table_item.proofs.First.{goes_on_lem}
use Rattle.table_item.proofs.find_item.Goals as goal

pub loop-i-preserved : goal.loop-i-preserved
loop-i-preserved c =
    let t : item_at c.args.items.now c.args.component c.args.code.now c.args.name.now c.loop-i.i ≡ false = rw (← c.item_in.ensures) (rw c.is.ensures at c.if-is.false) in
    goes_on_lem _ c.args.count c.loop-i.i _ c.loop-i.invariant (search rules) t
