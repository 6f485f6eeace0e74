-- `packet_answer::is_busy` meets its contract.
-- Assumes nothing.
use Rattle.packet_answer.proofs.is_busy.Goals as goal

pub returns : goal.returns
returns c = c.full.ensures
