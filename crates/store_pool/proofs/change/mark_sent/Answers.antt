-- `store_pool::change::mark_sent` meets its contract.
-- Assumes nothing.
use Rattle.basis.proofs.Std.{rules}
use Rattle.store_pool.proofs.PoolLaws.{index_within, mark_none, mark_one}
use Rattle.store_pool.proofs.change.mark_sent.Goals as goal

pub put_mark-requires : goal.put_mark-requires
put_mark-requires c = (search rules, index_within c.args.w.now c.args.l c.args.sequence c.in-At.ensures)

pub returns-in-At : goal.returns-in-At
returns-in-At c = rw c.put_mark.ensures (mark_one c.args.w.now c.args.l c.args.sequence c.in-At.ensures (search rules))

pub returns-in_default : goal.returns-in_default
returns-in_default c = mark_none c.args.w.now c.args.l c.args.sequence c.in_default.ensures
