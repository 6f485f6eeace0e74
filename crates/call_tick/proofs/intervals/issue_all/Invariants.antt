-- `call_tick::intervals::issue_all` meets its contract.
-- Assumes nothing.
use Rattle.call_tick.proofs.InPlace.{Issued}
use Rattle.call_tick.proofs.intervals.issue_all.Given as goal

abbrev pub invariant-loop-i : goal.invariant-loop-i
invariant-loop-i l = Issued l.time l.i l.initial.p l.p l.initial.w l.w
