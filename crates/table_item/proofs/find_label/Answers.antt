use Rattle.basis.proofs.Std.{◌≡◌, false, rules}
use Rattle.table_item.specs.Find.{label_at}
use Rattle.table_item.proofs.First.{goes_on_lem}
use Rattle.table_item.proofs.find_label.Goals as goal

pub loop-i-preserved : goal.loop-i-preserved
loop-i-preserved c =
    let t : label_at c.args.labels.now c.args.text.now c.loop-i.i ≡ false = rw (← c.label_in.ensures) (rw c.is.ensures at c.if-is.false) in
    goes_on_lem _ c.args.count c.loop-i.i _ c.loop-i.invariant (search rules) t
