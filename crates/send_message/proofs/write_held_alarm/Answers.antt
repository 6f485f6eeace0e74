-- `send_message::write_held_alarm` meets its contract.
-- Assumes nothing.
use Rattle.send_message.proofs.Read.{alarm_row_of}
use Rattle.send_message.proofs.write_held_alarm.Goals as goal

pub returns : goal.returns
returns c = λ s e. rw (← alarm_row_of s c.args.e.item e c.alarm_row-row.ensures, ← c.held_state.ensures) (c.tell_alarm.ensures s e)
