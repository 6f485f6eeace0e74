-- `call_input::records::add_aggregated` meets its contract.
-- Assumes nothing.
use Rattle.call_input.proofs.InPlace.{Issued, each}
use Rattle.call_input.proofs.records.add_aggregated.Given as goal

abbrev pub invariant-loop-l : goal.invariant-loop-l
invariant-loop-l l = Issued (each l.x) l.l l.initial.p l.p l.initial.w l.w
