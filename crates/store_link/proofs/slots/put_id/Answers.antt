-- `store_link::slots::put_id` meets its contract.
-- Assumes nothing.
use Rattle.store_link.proofs.Ids.{id_put}
use Rattle.store_link.proofs.slots.put_id.Goals as goal

pub returns : goal.returns
returns c = id_put _ _ _ _ _ _ c.put_eight.ensures c.put_eight-2.ensures
