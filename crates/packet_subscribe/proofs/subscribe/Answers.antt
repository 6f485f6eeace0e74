-- `packet_subscribe::subscribe` meets its contract.
-- Assumes nothing.
use Rattle.store_table.specs.Layout.{table_of}
use Rattle.packet_subscribe.proofs.subscribe.Goals as goal

pub returns : goal.returns
returns c =
    let f = c.read_status-f.ensures in
    let t = table_of c.args.t.now in
    let a = c.asking_on-asking.ensures c.args.p.now t in
    rw (← a, ← f) c.take.ensures
