use Rattle.basis.proofs.Std.{sym, ◌∙◌}
use Rattle.read_lists.proofs.number_of.Goals as goal

pub returns-in-Is : goal.returns-in-Is
returns-in-Is c = sym (rw c.in-Is.is)

pub returns-in-No : goal.returns-in-No
returns-in-No c = c.no_number.ensures ∙ sym (rw c.in-No.is)
