use Rattle.csv_entry.proofs.Shape.{as_alarm, as_status, as_other}
use Rattle.csv_entry.proofs.write.put_line.Goals as goal

pub returns-then-e-eq-ALARM : goal.returns-then-e-eq-ALARM
returns-then-e-eq-ALARM c = rw (as_alarm c.args.e c.if-e-eq-ALARM.true) c.put_alarm.ensures

pub returns-then-e-eq-STATUS : goal.returns-then-e-eq-STATUS
returns-then-e-eq-STATUS c = rw (as_status c.args.e c.if-e-eq-STATUS.true) c.put_status.ensures

pub returns : goal.returns
returns c = rw (as_other c.args.e c.if-e-eq-ALARM.false c.if-e-eq-STATUS.false) c.put_aggregated.ensures
