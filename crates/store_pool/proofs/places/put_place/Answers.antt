-- `store_pool::places::put_place` meets its contract.
-- Assumes nothing.
use Rattle.basis.proofs.Std.{arith, length-set, ◌+◌, ◌*◌, rules}
use Rattle.store_site.proofs.RowLaws.{place_put}
use Rattle.store_pool.proofs.places.put_place.Goals as goal

pub bounds-w-i-2 : goal.bounds-w-i-2
bounds-w-i-2 c = simp length-set (omega arith)

pub bounds-w-i-3 : goal.bounds-w-i-3
bounds-w-i-3 c = simp length-set (omega arith)

pub bounds-w-i-4 : goal.bounds-w-i-4
bounds-w-i-4 c = simp length-set (omega arith)

pub returns : goal.returns
returns c =
    place_put c.args.w.now (8 + 4 * c.args.k) c.args.x (search rules) (search rules) (search rules) (search rules) (search rules) (search rules) (search rules) c.pair-numbers.ensures c.quad-narrow.ensures
