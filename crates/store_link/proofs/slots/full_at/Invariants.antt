-- `store_link::slots::full_at` meets its contract.
-- Assumes nothing.
use Rattle.store_link.proofs.Asked.{Taken}
use Rattle.store_link.proofs.slots.full_at.Given as goal

abbrev pub invariant-loop-k : goal.invariant-loop-k
invariant-loop-k l = Taken l.w l.i l.k
