-- `call_input::records::add_statuses` meets its contract.
-- Assumes nothing.
use Rattle.call_input.proofs.InPlace.{Issued, entry_of}
use Rattle.call_input.proofs.records.add_statuses.Given as goal

abbrev pub invariant-loop-l : goal.invariant-loop-l
invariant-loop-l l = Issued (entry_of l.number l.x l.time) l.l l.initial.p l.p l.initial.w l.w
