use Rattle.csvc.specs.Calls.{Reads}
use Rattle.csvc.proofs.rsmp_csv_read.Goals as goal

pub returns-then-at-eq0 : goal.returns-then-at-eq0
returns-then-at-eq0 c = Reads.first c.if-at-eq0.true c.read_first.ensures

pub returns : goal.returns
returns c = Reads.further c.if-at-eq0.false c.read_on.ensures
