-- `call_tick::intervals::renew_all` meets its contract.
-- Assumes nothing.
use Rattle.basis.proofs.Std.{arith}
use Rattle.call_tick.proofs.InPlace.{renewed_0, renewed_next, renewed_all}
use Rattle.call_tick.proofs.intervals.renew_all.Goals as goal

pub loop-i-init : goal.loop-i-init
loop-i-init c = renewed_0 c.args.time c.args.w.now

pub loop-i-preserved : goal.loop-i-preserved
loop-i-preserved c = renewed_next c.args.time c.loop-i.i (omega arith) c.loop-i.invariant c.renew.ensures

pub returns : goal.returns
returns c = renewed_all c.args.time c.loop-i.i (omega arith) c.loop-i.invariant
