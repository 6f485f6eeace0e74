use Rattle.basis.proofs.Std.{rules}
use Rattle.write_report.proofs.status.start.Goals as goal

pub returns-then-first : goal.returns-then-first
returns-then-first c = rw c.if-first.true c.put_by.ensures

pub returns-else-first : goal.returns-else-first
returns-else-first c = rw c.if-first.false c.put_by-else-first.ensures
