-- `store_pool::places::holds` meets its contract.
-- Assumes nothing.
use Rattle.basis.proofs.Std.{◌≡◌, drop, count}
use Rattle.pool.specs.Places.{of}
use Rattle.store_site.specs.Layout.{places_in}
use Rattle.store_pool.proofs.places.holds.Given as goal

abbrev pub invariant-loop-i : goal.invariant-loop-i
invariant-loop-i l = (l.n ≡ count (of l.l) (drop l.i (places_in l.w)))
