-- `call_tick::intervals::renew_all` meets its contract.
-- Assumes nothing.
use Rattle.call_tick.proofs.InPlace.{Renewed}
use Rattle.call_tick.proofs.intervals.renew_all.Given as goal

abbrev pub invariant-loop-i : goal.invariant-loop-i
invariant-loop-i l = Renewed l.time l.i l.initial.w l.w
