use Rattle.basis.proofs.Std.{◌*◌, ◌+◌, arith, refl}
use Rattle.store_table.specs.Layout.{item_bytes}
use Rattle.store_table.proofs.LayLaws.{then, said, in_turn_next}
use Rattle.store_table.proofs.lays.items.Goals as goal

pub loop-k-preserved : goal.loop-k-preserved
loop-k-preserved c = said (then (73 * (c.loop-k.k + 1)) c.loop-k.invariant c.item.ensures refl (omega arith)) (in_turn_next item_bytes c.args.rows.now c.loop-k.k _ c.loop-k-test.true)
