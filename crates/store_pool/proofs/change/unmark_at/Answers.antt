-- `store_pool::change::unmark_at` meets its contract.
-- Assumes nothing.
use Rattle.basis.proofs.Std.{sym, ◌∙◌, rules}
use Rattle.store_pool.proofs.PoolLaws.{unmark_one, unmark_other}
use Rattle.store_pool.proofs.change.unmark_at.Goals as goal

pub returns-then-mine : goal.returns-then-mine
returns-then-mine c =
    rw c.put_mark.ensures (unmark_one c.args.w.now c.args.k c.args.l (search rules) (search rules) (rw c.place.ensures at (sym c.mine.ensures ∙ c.if-mine.true)))

pub returns-else-mine : goal.returns-else-mine
returns-else-mine c =
    unmark_other c.args.w.now c.args.k c.args.l (search rules) (rw c.place.ensures at (sym c.mine.ensures ∙ c.if-mine.false))
