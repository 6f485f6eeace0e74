-- `store_pool::issue::room` meets its contract.
-- Assumes nothing.
use Rattle.pool.specs.Pool.{room_of}
use Rattle.store_pool.proofs.issue.room.Goals as goal

pub returns-in-Nobody : goal.returns-in-Nobody
unfolding room_of
returns-in-Nobody c = rw c.in-Nobody.is c.requires.1

pub returns-in-Owner : goal.returns-in-Owner
unfolding room_of
returns-in-Owner c = rw c.in-Owner.is c.first.ensures
