use Rattle.basis.proofs.Std.{rules}
use Rattle.read_head.proofs.alarm_of.Goals as goal

pub returns : goal.returns
returns c = rw (c.worst-verdict.ensures, c.worst.ensures)
