-- `store_link::slots::ids_at` meets its contract.
-- Assumes nothing.
use Rattle.basis.proofs.Std.{◌∙◌, refl, sym, arith}
use Rattle.store_link.proofs.Ids.{ids_next}
use Rattle.store_link.proofs.slots.ids_at.Goals as goal

pub loop-k-init : goal.loop-k-init
loop-k-init c = (refl, λ j h. absurd (omega arith))

pub slice_bounds-put_id-end : goal.slice_bounds-put_id-end
slice_bounds-put_id-end c = sym c.loop-k.invariant.0

pub put_id-requires : goal.put_id-requires
put_id-requires c = (omega arith, omega arith)

pub loop-k-preserved : goal.loop-k-preserved
loop-k-preserved c =
    (c.put_id.auto.b ∙ c.loop-k.invariant.0, ids_next c.args.w.now _ _ c.args.i _ c.loop-k.invariant.1 c.put_id.ensures)

pub returns : goal.returns
returns c = λ j h. c.loop-k.invariant.1 j (omega arith)
