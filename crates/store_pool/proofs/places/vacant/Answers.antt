-- `store_pool::places::vacant` meets its contract.
-- Assumes nothing.
use Rattle.basis.proofs.Std.{sym, ◌∙◌, arith}
use Rattle.store_pool.specs.Vacant.Vacant.{nowhere, there}
use Rattle.store_pool.proofs.places.vacant.Goals as goal

pub returns-then-is_free : goal.returns-then-is_free
returns-then-is_free c = there (omega arith) c.loop-i.invariant (rw c.place.ensures (sym c.is_free.ensures ∙ c.if-is_free.true)) c.place.ensures

pub returns : goal.returns
returns c = nowhere (λ j g. c.loop-i.invariant j (omega arith))
