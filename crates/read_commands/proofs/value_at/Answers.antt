-- `read_commands::value_at` meets its contract.
-- Assumes nothing.
use Rattle.basis.proofs.Std.{ap, ◌∙◌}
use Rattle.read_head.specs.Word.{word_of}
use Rattle.read_head.proofs.Copies.{says, found_from}
use Rattle.read_commands.specs.Command.{got_value}
use Rattle.read_commands.proofs.value_at.Goals as goal

pub returns : goal.returns
returns c = c.value_of.ensures ∙ ap got_value (ap word_of c.element_at.ensures ∙ says (found_from _ _))
