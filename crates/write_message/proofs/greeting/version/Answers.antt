use Rattle.write_message.specs.Pieces.{pieces}
use Rattle.output.proofs.Laws.{then}
use Rattle.basis.proofs.Std.{rules}
use Rattle.write_message.proofs.greeting.version.Goals as goal

pub returns : goal.returns
unfolding pieces
returns c = then (then c.own_head-end.ensures (then c.label_behind-end.ensures c.label_behind-end-2.ensures)) c.put_bytes.ensures
