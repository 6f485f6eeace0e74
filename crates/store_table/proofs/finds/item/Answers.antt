use Rattle.basis.proofs.Std.{sym, ◌∙◌, rules}
use Rattle.table_item.proofs.First.{goes_on_lem}
use Rattle.store_table.proofs.finds.item.Goals as goal

pub loop-k-preserved : goal.loop-k-preserved
loop-k-preserved c = goes_on_lem _ c.args.count c.loop-k.k _ c.loop-k.invariant (search rules) (sym c.is_item.ensures ∙ c.if-is_item.false)
