-- `store_whole::lists::put_lost` meets its contract.
-- Assumes nothing.
use Rattle.basis.proofs.Std.{arith, rules}
use Rattle.store_whole.proofs.FillLaws.{lost_put}
use Rattle.store_whole.proofs.lists.put_lost.Goals as goal

pub returns : goal.returns
returns c = rw c.copy_from_slice.ensures.after (lost_put c.args.w.now c.args.lost (search (c, rules)) (omega arith))
