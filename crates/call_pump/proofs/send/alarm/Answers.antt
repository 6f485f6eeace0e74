-- `call_pump::send::alarm` meets its contract.
-- Assumes nothing.
use Rattle.call_pump.proofs.Laws.{sent}
use Rattle.call_pump.proofs.send.alarm.Goals as goal

pub returns : goal.returns
returns c = sent (c.write_alarm-end.ensures c.args.p.now) c.alarm.ensures (c.finish.ensures.report, c.finish.ensures.turns)
