-- `store_link::links::link_at` meets its contract.
-- Assumes nothing.
use Rattle.store_link.proofs.RowLaws.{link_get}
use Rattle.store_link.proofs.links.link_at.Goals as goal

pub returns : goal.returns
returns c =
    link_get c.args.w.now c.args.i c.awaited_at-awaited.ensures c.upper.ensures c.lower.ensures c.upper-2.ensures c.lower-2.ensures
