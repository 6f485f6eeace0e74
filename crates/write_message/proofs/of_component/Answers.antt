use Rattle.write_message.specs.Pieces.{component_pieces}
use Rattle.basis.proofs.Std.{rules}
use Rattle.write_message.proofs.of_component.Goals as goal

pub returns : goal.returns
unfolding component_pieces
returns c = c.label_behind.ensures
