-- `call_packet::judged` meets its contract.
-- Assumes nothing.
use Rattle.json_packet.proofs.Noted.{lent}
use Rattle.basis.proofs.Std.{rules}
use Rattle.call_packet.proofs.judged.Goals as goal

pub read_head-h-requires : goal.read_head-h-requires
read_head-h-requires c =
    let n = c.judge-j.ensures in
    (n.packet, lent _ _ _ n)

pub heed-requires : goal.heed-requires
heed-requires c = (search rules, search rules, search rules, search rules, lent _ _ _ c.judge-j.ensures)

pub returns : goal.returns
returns c = rw c.read_head-h.ensures at c.heed.ensures
