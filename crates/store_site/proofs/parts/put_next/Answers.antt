-- `store_site::parts::put_next` meets its contract.
-- Assumes nothing.
use Rattle.store_site.proofs.SiteLaws.{next_turns}
use Rattle.basis.proofs.Std.{rules}
use Rattle.store_site.proofs.parts.put_next.Goals as goal

pub returns : goal.returns
returns c = next_turns c.args.w.now c.args.n (search rules)
