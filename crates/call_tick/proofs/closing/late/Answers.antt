-- `call_tick::closing::late` meets its contract.
-- Assumes nothing.
use Rattle.call_tick.proofs.closing.late.Goals as goal

pub returns : goal.returns
returns c = λ ps t. rw (← c.link-k.ensures ps t) c.late.ensures
