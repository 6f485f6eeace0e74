use Rattle.write_message.specs.Pieces.{pieces}
use Rattle.output.proofs.Laws.{then}
use Rattle.basis.proofs.Std.{rules}
use Rattle.write_message.proofs.answers.not_ack.Goals as goal

pub returns : goal.returns
unfolding pieces
returns c = then (then c.repeated_head-end.ensures (then c.put_bytes-end.ensures c.put-end.ensures)) c.put_bytes.ensures
