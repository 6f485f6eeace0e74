-- `store_pool::places::number` meets its contract.
-- Assumes nothing.
use Rattle.basis.proofs.Std.{◌≡◌, drop, count}
use Rattle.pool.specs.Places.{fits}
use Rattle.store_site.specs.Layout.{places_in}
use Rattle.store_pool.proofs.places.number.Given as goal

abbrev pub invariant-loop-i : goal.invariant-loop-i
invariant-loop-i l = (l.n ≡ count (fits l.q) (drop l.i (places_in l.w)))
