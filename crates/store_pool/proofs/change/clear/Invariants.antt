-- `store_pool::change::clear` meets its contract.
-- Assumes nothing.
use Rattle.store_pool.proofs.PoolLaws.{Upto}
use Rattle.pool.specs.Pool.{freed_for}
use Rattle.store_pool.proofs.change.clear.Given as goal

abbrev pub invariant-loop-i : goal.invariant-loop-i
invariant-loop-i l = Upto (freed_for l.l) l.initial.w l.w l.i
