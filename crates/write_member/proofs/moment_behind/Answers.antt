use Rattle.output.proofs.Laws.{then}
use Rattle.basis.proofs.Std.{rules}
use Rattle.write_member.proofs.moment_behind.Goals as goal

pub returns : goal.returns
returns c = then c.put_bytes-end.ensures c.moment.ensures
