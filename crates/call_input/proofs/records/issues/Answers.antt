-- `call_input::records::issues` meets its contract.
-- Assumes nothing.
use Rattle.call_input.proofs.records.issues.Goals as goal

pub returns : goal.returns
returns c = λ ps t. rw (← c.subscription-u.ensures ps t) c.on_value.ensures
