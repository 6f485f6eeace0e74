-- `store_pool::places::first` meets its contract.
-- Assumes nothing.
use Rattle.basis.proofs.Std.{◌≡◌, drop}
use Rattle.pool.specs.Places.{fits, oldest_from}
use Rattle.store_site.specs.Layout.{places_in}
use Rattle.store_pool.proofs.places.first.Given as goal

abbrev pub invariant-loop-i : goal.invariant-loop-i
invariant-loop-i l = l.best ≡ oldest_from (fits l.q) l.i (drop l.i (places_in l.w))
