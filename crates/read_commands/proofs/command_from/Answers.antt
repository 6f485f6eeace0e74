use Rattle.read_commands.proofs.command_from.Goals as goal

pub returns : goal.returns
returns c = rw c.worst.ensures
