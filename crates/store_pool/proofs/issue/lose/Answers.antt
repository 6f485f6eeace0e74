-- `store_pool::issue::lose` meets its contract.
-- Assumes nothing.
use Rattle.store_pool.proofs.PoolLaws.{loss_none}
use Rattle.store_pool.proofs.issue.lose.Goals as goal

pub returns-in-Nobody : goal.returns-in-Nobody
returns-in-Nobody c = rw c.in-Nobody.is (loss_none c.args.w.now)

pub returns-in-Owner : goal.returns-in-Owner
returns-in-Owner c = rw c.in-Owner.is c.lose_of.ensures
