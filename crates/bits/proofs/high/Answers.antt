use mathlib.Core.Path.{sym}
use Rattle.bits.proofs.Operators.{shr_all}
use borrow.Author.Rules.{rules}
use Rattle.bits.proofs.high.Goals as goal

pub returns-else-shift-lt64 : goal.returns-else-shift-lt64
returns-else-shift-lt64 c = sym (shr_all c.args.word c.args.shift (search rules) c.if-shift-lt64.false)
