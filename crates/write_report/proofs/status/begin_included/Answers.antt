use Rattle.write_message.specs.Pieces.{included_head}
use Rattle.output.proofs.Laws.{then}
use Rattle.basis.proofs.Std.{rules}
use Rattle.write_report.proofs.status.begin_included.Goals as goal

pub returns : goal.returns
unfolding included_head
returns c = rw (← c.included_type_of.ensures) (then c.repeated_head-end.ensures c.tell.ensures)
