use mathlib.Core.Path.{sym}
use lib.Pow.{pow_pos}
use Rattle.bits.proofs.Operators.{one_shl, mask, wider}
use borrow.Author.Rules.{rules}
use Rattle.bits.proofs.low.Goals as goal

pub overflow_sub-result : goal.overflow_sub-result
overflow_sub-result c = rw (one_shl _ c.if-width-lt64.true) (pow_pos c.args.width)

pub returns-then-width-lt64 : goal.returns-then-width-lt64
returns-then-width-lt64 c = mask _ _ c.if-width-lt64.true

pub returns-else-width-lt64 : goal.returns-else-width-lt64
returns-else-width-lt64 c = sym (wider c.args.word c.args.width (search rules) c.if-width-lt64.false)
