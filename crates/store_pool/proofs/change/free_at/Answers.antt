-- `store_pool::change::free_at` meets its contract.
-- Assumes nothing.
use Rattle.basis.proofs.Std.{sym, ◌∙◌, rules}
use Rattle.store_pool.proofs.PoolLaws.{free_one, free_other}
use Rattle.store_pool.proofs.change.free_at.Goals as goal

pub returns-then-mine : goal.returns-then-mine
returns-then-mine c =
    free_one c.args.w.now c.args.k c.args.l (search rules) c.put_place.new.w (rw c.place.ensures at (sym c.mine.ensures ∙ c.if-mine.true)) c.put_place.ensures

pub returns-else-mine : goal.returns-else-mine
returns-else-mine c =
    free_other c.args.w.now c.args.k c.args.l (search rules) (rw c.place.ensures at (sym c.mine.ensures ∙ c.if-mine.false))
