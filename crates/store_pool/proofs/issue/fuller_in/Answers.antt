-- `store_pool::issue::fuller_in` meets its contract.
-- Assumes nothing.
use Rattle.basis.proofs.Std.{lt-ltb, le-ltb}
use Rattle.store_pool.proofs.issue.fuller_in.Goals as goal

pub returns-then-held-a : goal.returns-then-held-a
returns-then-held-a c = simp (lt-ltb _ _ c.if-held-a.true)

pub returns-else-held-a : goal.returns-else-held-a
returns-else-held-a c = simp (le-ltb _ _ c.if-held-a.false)
