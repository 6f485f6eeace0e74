use Rattle.basis.proofs.Std.{append-nil, rules}
use Rattle.write_message.specs.Pieces.{pieces, entries_pieces}
use Rattle.output.proofs.Laws.{then}
use Rattle.write_report.proofs.status.update.Goals as goal

pub returns : goal.returns
unfolding pieces entries_pieces
returns c = rw append-nil (then (then c.begin-end.ensures c.entry-end.ensures) c.finish.ensures)
