use Rattle.read_commands.proofs.no_commands.Goals as goal

pub returns : goal.returns
returns c = rw c.no_command.ensures
