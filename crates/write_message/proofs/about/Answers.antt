use Rattle.write_message.specs.Pieces.{about_pieces}
use Rattle.output.proofs.Laws.{then}
use Rattle.basis.proofs.Std.{rules}
use Rattle.write_message.proofs.about.Goals as goal

pub returns : goal.returns
unfolding about_pieces
returns c = then c.own_head-end.ensures c.of_component.ensures
