-- `store_pool::places::vacant` meets its contract.
-- Assumes nothing.
use Rattle.store_site.specs.Layout.{places_in}
use Rattle.store_pool.specs.Vacant.{Taken}
use Rattle.store_pool.proofs.places.vacant.Given as goal

abbrev pub invariant-loop-i : goal.invariant-loop-i
invariant-loop-i l = Taken (places_in l.w) l.i
