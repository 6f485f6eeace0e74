use Rattle.names.proofs.Spans.{spans, past}
use Rattle.names.proofs.table.span_of.Goals as goal

pub returns-then-i-lt-COUNT : goal.returns-then-i-lt-COUNT
returns-then-i-lt-COUNT c = rw (c.from-start.ensures, c.from.ensures) (spans c.args.i c.if-i-lt-COUNT.true)

pub returns-else-i-lt-COUNT : goal.returns-else-i-lt-COUNT
returns-else-i-lt-COUNT c = past c.args.i c.if-i-lt-COUNT.false
