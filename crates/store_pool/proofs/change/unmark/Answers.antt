-- `store_pool::change::unmark` meets its contract.
-- Assumes nothing.
use Rattle.basis.proofs.Std.{arith}
use Rattle.store_pool.proofs.PoolLaws.{upto_none, upto_next, unmarked}
use Rattle.pool.specs.Pool.{unsent_for}
use Rattle.store_pool.proofs.change.unmark.Goals as goal

pub loop-i-init : goal.loop-i-init
loop-i-init c = upto_none (unsent_for c.args.l) c.args.w.now

pub loop-i-preserved : goal.loop-i-preserved
loop-i-preserved c =
    let l = c.loop-i in
    upto_next (unsent_for c.args.l) c.args.w.now l.w c.unmark_at.new.w l.i (omega arith) l.invariant c.unmark_at.ensures

pub returns : goal.returns
returns c =
    let l = c.loop-i in
    unmarked c.args.w.now l.w c.args.l l.i (omega arith) l.invariant
