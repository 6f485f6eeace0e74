-- `packet_answer::begin` meets its contract.
-- Assumes nothing.
use Rattle.packet_answer.proofs.begin.Goals as goal

pub returns-then-q : goal.returns-then-q
returns-then-q c = rw c.if-q.true c.begin_included.ensures

pub returns : goal.returns
returns c = rw c.if-q.false c.begin.ensures
