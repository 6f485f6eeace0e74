use Rattle.basis.proofs.Std.{rules}
use Rattle.read_head.proofs.unusable.Goals as goal

pub returns : goal.returns
returns c = rw c.no_copy.ensures
