use Rattle.basis.proofs.Std.{◌*◌, ◌+◌, arith, refl}
use Rattle.store_table.specs.Layout.{label_bytes}
use Rattle.store_table.proofs.LayLaws.{then, said, in_turn_next}
use Rattle.store_table.proofs.lays.labels.Goals as goal

pub loop-k-preserved : goal.loop-k-preserved
loop-k-preserved c = said (then (33 * (c.loop-k.k + 1)) c.loop-k.invariant c.label.ensures refl (omega arith)) (in_turn_next label_bytes c.args.rows.now c.loop-k.k _ c.loop-k-test.true)
