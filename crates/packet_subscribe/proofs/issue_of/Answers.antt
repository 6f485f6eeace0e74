-- `packet_subscribe::issue_of` meets its contract.
-- Assumes nothing.
use Rattle.packet_subscribe.proofs.Loops.{record_one}
use Rattle.packet_subscribe.proofs.issue_of.Goals as goal

pub returns : goal.returns
returns c =
    record_one c.args.p.now c.args.w.now c.args.l c.args.time c.args.k c.status-v.ensures c.status.ensures c.add.ensures
