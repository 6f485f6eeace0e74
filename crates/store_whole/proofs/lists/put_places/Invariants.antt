-- `store_whole::lists::put_places` meets its contract.
-- Assumes nothing.
use Rattle.store_whole.proofs.FillLaws.{PlacesTo}
use Rattle.store_whole.proofs.lists.put_places.Given as goal

abbrev pub invariant-loop-k : goal.invariant-loop-k
invariant-loop-k l = PlacesTo l.w l.fn.places l.k
