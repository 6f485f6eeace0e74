use Rattle.basis.proofs.Std.{rules}
use Rattle.read_head.proofs.no_label.Goals as goal

pub returns : goal.returns
returns c = rw c.none.ensures
