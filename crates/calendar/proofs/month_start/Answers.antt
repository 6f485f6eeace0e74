use Rattle.basis.proofs.Std.{arith, rules}
use Rattle.calendar.proofs.Months.{first, march_start}
use Rattle.calendar.proofs.month_start.Goals as goal

pub returns-then-m-lt3 : goal.returns-then-m-lt3
returns-then-m-lt3 c = (first c.args.l c.args.m c.requires.1 c.if-m-lt3.true, search rules)

pub returns-else-m-lt3 : goal.returns-else-m-lt3
returns-else-m-lt3 c = let e = march_start c.args.l c.args.m c.requires.0 c.if-m-lt3.false c.requires.2 in (omega (arith, e), search rules)
