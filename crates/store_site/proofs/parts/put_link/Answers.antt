-- `store_site::parts::put_link` meets its contract.
-- Assumes nothing.
use Rattle.store_site.proofs.SiteLaws.{link_turns}
use Rattle.basis.proofs.Std.{rules}
use Rattle.store_site.proofs.parts.put_link.Goals as goal

pub returns : goal.returns
returns c =
    link_turns c.args.w.now c.put_link_at.new.w c.args.l c.args.x (search rules) c.put_link_at.ensures
