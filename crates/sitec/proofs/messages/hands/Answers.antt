-- `sitec::messages::hands` meets its contract.
-- Assumes nothing.
use Rattle.basis.proofs.Std.{sym, ap}
use Rattle.sitec.specs.Outcome.{hands_of}
use Rattle.sitec.proofs.messages.hands.Goals as goal

pub returns-in-Done : goal.returns-in-Done
returns-in-Done c = sym (ap hands_of c.in-Done.is)
