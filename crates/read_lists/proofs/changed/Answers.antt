use Rattle.basis.proofs.Std.{sym, ◌∙◌}
use Rattle.read_lists.proofs.changed.Goals as goal

pub returns-else-b : goal.returns-else-b
returns-else-b c = c.seldom.ensures ∙ sym (rw (c.in-Is.is, c.if-b.false))
