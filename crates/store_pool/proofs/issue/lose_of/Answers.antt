-- `store_pool::issue::lose_of` meets its contract.
-- Assumes nothing.
use Rattle.store_pool.proofs.PoolLaws.{loss_out, loss_one}
use Rattle.basis.proofs.Std.{rules}
use Rattle.store_pool.proofs.issue.lose_of.Goals as goal

pub returns-then-m-ge8 : goal.returns-then-m-ge8
returns-then-m-ge8 c = loss_out c.args.w.now c.args.m c.if-m-ge8.true

pub returns : goal.returns
returns c = loss_one c.args.w.now c.args.m (search rules) c.if-m-ge8.false c.more.ensures
