use Rattle.write_message.specs.Pieces.{rest_pieces}
use Rattle.output.proofs.Laws.{then}
use Rattle.basis.proofs.Std.{rules}
use Rattle.write_report.proofs.alarms.rest.Goals as goal

pub returns : goal.returns
unfolding rest_pieces
returns c = then (then (then c.moment_behind-end.ensures c.choice-end.ensures) c.put_decimal-end.ensures) c.put_bytes.ensures
