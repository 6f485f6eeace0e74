-- `store_site::parts::put_last` meets its contract.
-- Assumes nothing.
use Rattle.store_site.proofs.SiteLaws.{last_turns}
use Rattle.basis.proofs.Std.{rules}
use Rattle.store_site.proofs.parts.put_last.Goals as goal

pub returns : goal.returns
returns c = last_turns c.args.w.now c.args.n (search rules)
