use Rattle.basis.proofs.Std.{eq-eqb, ne_eqb, rules}
use Rattle.write_report.proofs.alarms.event.Goals as goal

pub returns-then-event-eq0 : goal.returns-then-event-eq0
returns-then-event-eq0 c = rw (eq-eqb _ _ c.if-event-eq0.true) c.put_bytes.ensures

pub returns : goal.returns
returns c = rw (ne_eqb _ _ c.if-event-eq0.false) c.choice.ensures
