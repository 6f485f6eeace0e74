-- `packet_command::is_command` meets its contract.
-- Assumes nothing.
use Rattle.packet_command.proofs.is_command.Goals as goal

pub returns : goal.returns
returns c = rw (← c.command.ensures) c.is_sought.ensures
