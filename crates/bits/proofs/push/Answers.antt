use mathlib.Core.Path.{◌∙◌}
use Rattle.bits.proofs.Operators.{push, push_all}
use borrow.Author.Rules.{rules}
use Rattle.bits.proofs.push.Goals as goal

pub returns-then-width-lt64 : goal.returns-then-width-lt64
returns-then-width-lt64 c = rw c.low-behind.ensures (push _ _ _ c.if-width-lt64.true)

pub returns-else-width-lt64 : goal.returns-else-width-lt64
returns-else-width-lt64 c = c.low-behind.ensures ∙ push_all _ _ _ c.if-width-lt64.false (search rules)
