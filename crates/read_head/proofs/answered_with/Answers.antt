use Rattle.basis.proofs.Std.{rules, sym}
use Rattle.read_head.proofs.answered_with.Goals as goal

pub returns-then-o : goal.returns-then-o
returns-then-o c = sym (rw c.if-o.true)
