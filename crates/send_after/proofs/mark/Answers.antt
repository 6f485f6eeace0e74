-- `send_after::mark` meets its contract.
-- Assumes nothing.
use Rattle.basis.proofs.Std.{refl}
use Rattle.send_after.proofs.mark.Goals as goal

pub returns-in-Held : goal.returns-in-Held
returns-in-Held c = rw c.in-Held.is c.mark_sent.ensures

pub returns-in-NoRecord : goal.returns-in-NoRecord
returns-in-NoRecord c = rw c.in-NoRecord.is refl
