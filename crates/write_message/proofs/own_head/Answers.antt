use Rattle.write_message.specs.Pieces.{own_pieces}
use Rattle.basis.proofs.Std.{rules}
use Rattle.write_message.proofs.own_head.Goals as goal

pub returns : goal.returns
unfolding own_pieces
returns c = rw (← c.identity_text-t.ensures) c.head.ensures
