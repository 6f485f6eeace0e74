-- `store_link::slots::put_slots` meets its contract.
-- Assumes nothing.
use Rattle.store_link.proofs.RowLaws.{Sofar}
use Rattle.store_link.proofs.slots.put_slots.Given as goal

abbrev pub invariant-loop-k : goal.invariant-loop-k
invariant-loop-k l = Sofar l.initial.w l.w l.i l.fn.slots l.k
