-- `store_pool::read::lost` meets its contract.
-- Assumes nothing.
use Rattle.store_pool.proofs.PoolLaws.{lost_at, lost_beyond}
use Rattle.store_pool.proofs.read.lost.Goals as goal

pub returns-then-l-lt8 : goal.returns-then-l-lt8
returns-then-l-lt8 c = lost_at c.args.w.now c.args.l c.if-l-lt8.true

pub returns-else-l-lt8 : goal.returns-else-l-lt8
returns-else-l-lt8 c = lost_beyond c.args.w.now c.args.l c.if-l-lt8.false
