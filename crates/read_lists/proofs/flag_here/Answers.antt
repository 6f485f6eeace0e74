use Rattle.basis.proofs.Std.{sym, ◌∙◌}
use Rattle.read_lists.specs.Items.{flag_here}
use Rattle.read_lists.proofs.flag_here.Goals as goal

pub returns-then-begins : goal.returns-then-begins
unfolding flag_here
returns-then-begins c = sym (rw (sym c.begins.ensures ∙ c.if-begins.true))

pub returns-then-begins-2 : goal.returns-then-begins-2
unfolding flag_here
returns-then-begins-2 c = sym (rw (sym c.begins.ensures ∙ c.if-begins.false, sym c.begins-2.ensures ∙ c.if-begins-2.true))

pub returns : goal.returns
unfolding flag_here
returns c = sym (rw (sym c.begins.ensures ∙ c.if-begins.false, sym c.begins-2.ensures ∙ c.if-begins-2.false))
