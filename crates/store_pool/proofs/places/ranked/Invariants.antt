-- `store_pool::places::ranked` meets its contract.
-- Assumes nothing.
use Rattle.basis.proofs.Std.{◌≡◌, drop}
use Rattle.pool.specs.Places.{oldest_from}
use Rattle.pool.specs.Pool.{rank_is}
use Rattle.store_site.specs.Layout.{places_in}
use Rattle.store_pool.proofs.places.ranked.Given as goal

abbrev pub invariant-loop-i : goal.invariant-loop-i
invariant-loop-i l = l.best ≡ oldest_from (rank_is (places_in l.w) l.l l.rank) l.i (drop l.i (places_in l.w))
