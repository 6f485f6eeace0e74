-- `read_commands::command_found` meets its contract.
-- Assumes nothing.
use Rattle.basis.proofs.Std.{◌∙◌}
use Rattle.read_commands.proofs.command_found.Goals as goal

pub returns : goal.returns
returns c = c.command_of.ensures ∙ rw (c.label_at-c.ensures, c.label_at-n.ensures, c.label_at-o.ensures, c.value_at.ensures)
