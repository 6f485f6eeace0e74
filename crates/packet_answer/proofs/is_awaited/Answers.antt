-- `packet_answer::is_awaited` meets its contract.
-- Assumes nothing.
use Rattle.packet_answer.proofs.is_awaited.Goals as goal

pub returns : goal.returns
returns c = c.awaits.ensures
