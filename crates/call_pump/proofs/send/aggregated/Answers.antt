-- `call_pump::send::aggregated` meets its contract.
-- Assumes nothing.
use Rattle.store_site.proofs.TurnsLaws.{turns_moves}
use Rattle.call_pump.proofs.Laws.{sent}
use Rattle.call_pump.proofs.send.aggregated.Goals as goal

pub returns : goal.returns
returns c = λ ps. sent (c.write_aggregated-end.ensures ps) (turns_moves ps c.aggregated.ensures) (c.finish.ensures.report, c.finish.ensures.turns)
