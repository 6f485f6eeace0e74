-- `send_after::first_pass` meets its contract.
-- Assumes nothing.
use Rattle.store_site.proofs.SiteLaws.{pool_of}
use Rattle.send_after.proofs.first_pass.Goals as goal

pub returns : goal.returns
returns c =
    λ t.
    rw (pool_of c.args.p.now c.args.w.now t, ← c.owner-owner.ensures c.args.p.now t, ← c.alarm-a.ensures c.args.p.now t, ← c.issued.ensures, ← c.newest_alarm.ensures)
    c.carried_of.ensures
