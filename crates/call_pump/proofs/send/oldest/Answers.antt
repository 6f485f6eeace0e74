-- `call_pump::send::oldest` meets its contract.
-- Assumes nothing.
use Rattle.pool.specs.Pool.{oldest_unsent}
use Rattle.site.specs.Site.{owner_of}
use Rattle.store_site.specs.Layout.{site_of}
use Rattle.store_site.proofs.SiteLaws.{pool_of}
use Rattle.store_table.specs.Layout.{table_of}
use Rattle.basis.proofs.Std.{◌≡◌}
use Rattle.call_pump.proofs.send.oldest.Goals as goal

pub returns : goal.returns
returns c =
    let x = table_of c.args.t.now in
    let s = site_of c.args.p.now c.args.w.now x in
    let oldest = c.oldest_unsent in
    let e : oldest.result ≡ oldest_unsent s.pool (owner_of s c.args.l) = rw (pool_of c.args.p.now c.args.w.now x, ← c.owner-owner.ensures c.args.p.now x) oldest.ensures in
    rw (← e) c.found.ensures
