-- `call_pump::send::watchdog` meets its contract.
-- Assumes nothing.
use Rattle.store_site.proofs.TurnsLaws.{turns_moves}
use Rattle.call_pump.proofs.Laws.{sent}
use Rattle.call_pump.proofs.send.watchdog.Goals as goal

pub returns : goal.returns
returns c = λ ps x. sent c.watchdog-end.ensures (turns_moves ps c.watchdog.ensures) (c.finish.ensures.report, c.finish.ensures.turns)
