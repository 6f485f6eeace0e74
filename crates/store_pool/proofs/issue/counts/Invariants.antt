-- `store_pool::issue::counts` meets its contract.
-- Assumes nothing.
use Rattle.basis.proofs.Std.{◌≡◌, length, drop}
use Rattle.store_site.specs.Layout.{places_in}
use Rattle.store_pool.specs.Pools.{Counted}
use Rattle.store_pool.proofs.issue.counts.Given as goal

abbrev pub invariant-loop-i : goal.invariant-loop-i
invariant-loop-i l = ((length l.held ≡ 8) × Counted (drop l.i (places_in l.w)) l.held)
