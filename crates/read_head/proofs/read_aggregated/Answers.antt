use Rattle.basis.proofs.Std.{rules}
use Rattle.read_head.specs.Small.{aggregated_at}
use Rattle.read_head.proofs.read_aggregated.Goals as goal

pub returns : goal.returns
unfolding aggregated_at
returns c = c.own_label.ensures
