-- `store_pool::change::unmark` meets its contract.
-- Assumes nothing.
use Rattle.store_pool.proofs.PoolLaws.{Upto}
use Rattle.pool.specs.Pool.{unsent_for}
use Rattle.store_pool.proofs.change.unmark.Given as goal

abbrev pub invariant-loop-i : goal.invariant-loop-i
invariant-loop-i l = Upto (unsent_for l.l) l.initial.w l.w l.i
