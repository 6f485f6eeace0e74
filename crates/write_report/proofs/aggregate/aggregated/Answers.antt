use Rattle.write_message.specs.Pieces.{pieces}
use Rattle.output.proofs.Laws.{then}
use Rattle.basis.proofs.Std.{rules}
use Rattle.write_report.proofs.aggregate.aggregated.Goals as goal

pub returns : goal.returns
unfolding pieces
returns c = then (then (then c.about-end.ensures (then c.moment_behind-end.ensures c.put_bytes-end.ensures)) c.high-end.ensures) c.low.ensures
