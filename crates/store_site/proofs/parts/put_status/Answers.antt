-- `store_site::parts::put_status` meets its contract.
-- Assumes nothing.
use Rattle.basis.proofs.Std.{◌+◌, rules}
use Rattle.store_site.proofs.SiteLaws.{status_turns}
use Rattle.store_site.proofs.RowLaws.{status_put}
use Rattle.store_site.proofs.parts.put_status.Goals as goal

pub returns : goal.returns
returns c =
    status_turns c.args.w.now _ c.args.k c.args.x (search rules) (status_put c.args.w.now (625 + c.args.k) c.args.x (search rules) (search rules) (search rules) c.pair-both.ensures)
