use Rattle.basis.proofs.Std.{◌∙◌}
use Rattle.read_lists.specs.Status.{status_at}
use Rattle.read_lists.proofs.read_status.Goals as goal

pub returns : goal.returns
unfolding status_at
returns c = c.status_of.ensures ∙ rw (c.own_label.ensures, c.statuses_of.ensures)
