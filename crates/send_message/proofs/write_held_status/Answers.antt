-- `send_message::write_held_status` meets its contract.
-- Assumes nothing.
use Rattle.send_message.proofs.Read.{status_row_of}
use Rattle.send_message.proofs.write_held_status.Goals as goal

pub returns : goal.returns
returns c = λ s e. rw (← status_row_of s c.args.e.item e c.status_row-row.ensures, ← c.held_value.ensures) (c.tell_status.ensures s e)
