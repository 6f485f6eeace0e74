-- `packet_subscribe::unsubscribe` meets its contract.
-- Assumes nothing.
use Rattle.packet_subscribe.proofs.unsubscribe.Goals as goal

pub returns : goal.returns
returns c = rw (← c.read_status-f.ensures) c.take.ensures
