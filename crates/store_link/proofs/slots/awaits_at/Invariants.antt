-- `store_link::slots::awaits_at` meets its contract.
-- Assumes nothing.
use Rattle.identity.specs.declared.Identity.{Identity}
use Rattle.store_link.proofs.Asked.{Answers, Sought}
use Rattle.store_link.proofs.slots.awaits_at.Given as goal

abbrev pub invariant-loop-k : goal.invariant-loop-k
invariant-loop-k l = (id : Identity) → Answers l.w l.a l.b id → Sought l.w l.i id l.k
