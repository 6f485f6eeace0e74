-- `call_pump::send::found` meets its contract.
-- Assumes nothing.
use Rattle.call_pump.proofs.Laws.{quiet}
use Rattle.call_pump.proofs.send.found.Goals as goal

pub returns-in-Nothing : goal.returns-in-Nothing
returns-in-Nothing c = rw c.in-Nothing.is (quiet c.args.p.now (c.finish.ensures.report, c.finish.ensures.turns))

pub returns-in-Found : goal.returns-in-Found
returns-in-Found c = rw c.in-Found.is c.entry.ensures
