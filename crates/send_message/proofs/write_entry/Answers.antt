-- `send_message::write_entry` meets its contract.
-- Assumes nothing.
use Rattle.basis.proofs.Std.{eq-eqb, ne_eqb}
use Rattle.send_message.proofs.write_entry.Goals as goal

pub returns-then-e-eq-ALARM : goal.returns-then-e-eq-ALARM
returns-then-e-eq-ALARM c = λ s e. rw (eq-eqb _ _ c.if-e-eq-ALARM.true) (c.write_held_alarm.ensures s e)

pub returns-then-e-eq-STATUS : goal.returns-then-e-eq-STATUS
returns-then-e-eq-STATUS c = λ s e. rw (ne_eqb _ _ c.if-e-eq-ALARM.false, eq-eqb _ _ c.if-e-eq-STATUS.true) (c.write_held_status.ensures s e)

pub returns : goal.returns
returns c = λ s e. rw (ne_eqb _ _ c.if-e-eq-ALARM.false, ne_eqb _ _ c.if-e-eq-STATUS.false) (c.tell_aggregated.ensures s e)
