use Rattle.write_message.specs.Pieces.{high_pieces}
use Rattle.output.proofs.Laws.{then}
use Rattle.basis.proofs.Std.{rules}
use Rattle.write_report.proofs.aggregate.high.Goals as goal

pub returns : goal.returns
unfolding high_pieces
returns c = then (then (then c.flag-end.ensures c.flag-end-2.ensures) c.flag-end-3.ensures) c.flag.ensures
