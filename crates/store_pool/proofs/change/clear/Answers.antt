-- `store_pool::change::clear` meets its contract.
-- Assumes nothing.
use Rattle.basis.proofs.Std.{arith, rules}
use Rattle.store_pool.proofs.PoolLaws.{upto_none, upto_next, cleared, cleared_out}
use Rattle.pool.specs.Pool.{freed_for}
use Rattle.store_pool.proofs.change.clear.Goals as goal

pub loop-i-init : goal.loop-i-init
loop-i-init c = upto_none (freed_for c.args.l) c.args.w.now

pub loop-i-preserved : goal.loop-i-preserved
loop-i-preserved c =
    let l = c.loop-i in
    upto_next (freed_for c.args.l) c.args.w.now l.w c.free_at.new.w l.i (omega arith) l.invariant c.free_at.ensures

pub returns-then-l-lt8 : goal.returns-then-l-lt8
returns-then-l-lt8 c =
    let l = c.loop-i in
    cleared c.args.w.now l.w c.args.l l.i (omega arith) c.if-l-lt8.true (search rules) l.invariant

pub returns-else-l-lt8 : goal.returns-else-l-lt8
returns-else-l-lt8 c =
    let l = c.loop-i in
    cleared_out c.args.w.now l.w c.args.l l.i (omega arith) c.if-l-lt8.false l.invariant
