-- `store_call::records::status` meets its contract.
-- Assumes nothing.
use Rattle.store_call.proofs.records.status.Goals as goal

pub returns : goal.returns
returns c = λ ps t. rw (← c.up.ensures ps t, ← c.owner.ensures ps t) c.issued.ensures
