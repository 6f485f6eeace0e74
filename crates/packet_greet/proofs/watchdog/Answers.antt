-- `packet_greet::watchdog` meets its contract.
-- Assumes nothing.
use Rattle.packet_greet.proofs.watchdog.Goals as goal

pub returns : goal.returns
returns c = λ ps t. rw (← c.read_watchdog.ensures) (c.watchdog_by.ensures ps t)
