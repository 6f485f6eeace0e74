-- `read_lists::flag_at` meets its contract.
-- Assumes nothing.
use Rattle.basis.proofs.Std.{sym, ◌∙◌}
use Rattle.read_lists.specs.Items.{flag_found}
use Rattle.read_lists.proofs.flag_at.Goals as goal

pub returns-in-Bad : goal.returns-in-Bad
unfolding flag_found
returns-in-Bad c = sym (rw c.in-Bad.is)

pub returns-in-End : goal.returns-in-End
unfolding flag_found
returns-in-End c = c.flag_here.ensures ∙ sym (rw c.in-End.is)
