-- `store_pool::places::place` meets its contract.
-- Assumes nothing.
use Rattle.basis.proofs.Std.{◌∙◌, ◌+◌, ◌*◌, rules}
use Rattle.store_site.proofs.RowLaws.{place_get}
use Rattle.store_site.proofs.SiteLaws.{place_at}
use Rattle.store_pool.proofs.places.place.Goals as goal

pub returns : goal.returns
returns c =
    place_get c.args.w.now (8 + 4 * c.args.k) c.upper.ensures c.lower.ensures c.quarter.ensures c.quarter-2.ensures c.quarter-3.ensures c.quarter-4.ensures ∙ place_at c.args.w.now c.args.k (search rules)
