use Rattle.read_commands.proofs.no_command.Goals as goal

pub returns : goal.returns
returns c = rw (c.none-2.ensures, c.none.ensures)
