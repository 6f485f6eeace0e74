use Rattle.basis.proofs.Std.{refl}
use Rattle.calendar.proofs.Months.{from_january, after_february}
use Rattle.calendar.proofs.month_of.Goals as goal

pub returns-then-n-l : goal.returns-then-n-l
returns-then-n-l c = from_january c.args.l c.args.n _ c.requires.0 c.if-n-l.true refl

pub returns : goal.returns
returns c = after_february c.args.l c.args.n _ _ c.requires.0 c.if-n-l.false c.requires.1 refl refl
