use Rattle.write_message.specs.Pieces.{head_pieces}
use Rattle.output.proofs.Laws.{then}
use Rattle.basis.proofs.Std.{rules}
use Rattle.write_message.proofs.head.Goals as goal

pub returns : goal.returns
unfolding head_pieces
returns c = then (then c.put_bytes-end.ensures c.put-end.ensures) c.put2.ensures
