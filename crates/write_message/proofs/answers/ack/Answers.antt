use Rattle.write_message.specs.Pieces.{pieces}
use Rattle.output.proofs.Laws.{then}
use Rattle.basis.proofs.Std.{rules}
use Rattle.write_message.proofs.answers.ack.Goals as goal

pub returns : goal.returns
unfolding pieces
returns c = then c.repeated_head-end.ensures c.put_bytes.ensures
