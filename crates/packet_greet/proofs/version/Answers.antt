-- `packet_greet::version` meets its contract.
-- Assumes nothing.
use Rattle.packet_greet.proofs.version.Goals as goal

pub returns : goal.returns
returns c = rw (← c.read_version.ensures) c.version_by.ensures
