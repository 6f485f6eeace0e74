-- `call_tick::intervals::issue_all` meets its contract.
-- Assumes nothing.
use Rattle.basis.proofs.Std.{arith}
use Rattle.call_tick.proofs.InPlace.{issued_0, issued_next, issued_all_lem}
use Rattle.call_tick.proofs.intervals.issue_all.Goals as goal

pub loop-i-init : goal.loop-i-init
loop-i-init c = issued_0 c.args.time c.args.p.now c.args.w.now

pub loop-i-preserved : goal.loop-i-preserved
loop-i-preserved c = issued_next c.args.time c.loop-i.i c.loop-i.invariant c.issue_one.ensures

pub returns : goal.returns
returns c = issued_all_lem c.args.time c.loop-i.i (omega arith) c.loop-i.invariant
