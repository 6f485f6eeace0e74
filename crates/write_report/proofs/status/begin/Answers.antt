use Rattle.write_message.specs.Pieces.{status_head}
use Rattle.output.proofs.Laws.{then}
use Rattle.basis.proofs.Std.{rules}
use Rattle.write_report.proofs.status.begin.Goals as goal

pub returns : goal.returns
unfolding status_head
returns c = rw (← c.type_of.ensures) (then c.own_head-end.ensures c.tell.ensures)
