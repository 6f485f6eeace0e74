use Rattle.write_message.specs.Pieces.{entry_pieces}
use Rattle.output.proofs.Laws.{then}
use Rattle.basis.proofs.Std.{rules}
use Rattle.write_report.proofs.status.entry.Goals as goal

pub returns : goal.returns
unfolding entry_pieces
returns c = then (then (then c.start-end.ensures c.label-end.ensures) c.label_behind-end.ensures) c.value.ensures
