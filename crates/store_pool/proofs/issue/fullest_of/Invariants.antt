-- `store_pool::issue::fullest_of` meets its contract.
-- Assumes nothing.
use Rattle.basis.proofs.Std.{◌<◌, ◌-◌, ◌≡◌}
use Rattle.pool.specs.Shares.{fullest}
use Rattle.pool.specs.Pool.{held_in}
use Rattle.store_site.specs.Layout.{places_in}
use Rattle.store_pool.proofs.issue.fullest_of.Given as goal

abbrev pub invariant-loop-k : goal.invariant-loop-k
invariant-loop-k l = (l.m < 8) × (l.m ≡ fullest (held_in (places_in l.w)) (l.k - 1))
