-- `store_site::head::put_aggregated` meets its contract.
-- Assumes nothing.
use Rattle.store_site.proofs.SiteLaws.{aggregated_turns}
use Rattle.basis.proofs.Std.{rules}
use Rattle.store_site.proofs.head.put_aggregated.Goals as goal

pub returns : goal.returns
returns c = aggregated_turns c.args.w.now c.args.x (search rules)
