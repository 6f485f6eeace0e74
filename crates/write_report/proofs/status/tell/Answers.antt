use Rattle.write_message.specs.Pieces.{told_pieces}
use Rattle.output.proofs.Laws.{then}
use Rattle.basis.proofs.Std.{rules}
use Rattle.write_report.proofs.status.tell.Goals as goal

pub returns : goal.returns
unfolding told_pieces
returns c = then c.of_component-end.ensures (then (then c.put_by-end.ensures c.moment-end.ensures) c.put_by.ensures)
