-- `store_link::links::put_link_at` meets its contract.
-- Assumes nothing.
use Rattle.store_link.proofs.RowLaws.{link_put}
use Rattle.store_link.proofs.links.put_link_at.Goals as goal

pub returns : goal.returns
returns c =
    link_put c.args.w.now c.put_head.new.w c.put_mark.new.w c.put_mark-2.new.w c.put_awaited.new.w c.args.i c.args.x c.put_head.ensures c.put_mark.ensures c.put_mark-2.ensures c.put_awaited.ensures
