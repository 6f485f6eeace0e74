use Rattle.basis.proofs.Std.{◌∙◌}
use Rattle.read_commands.specs.Command.{command_at}
use Rattle.read_commands.proofs.read_command.Goals as goal

pub returns : goal.returns
unfolding command_at
returns c = c.command_from.ensures ∙ rw (c.own_label.ensures, c.commands_of.ensures)
