-- `store_pool::change::settle` meets its contract.
-- Assumes nothing.
use Rattle.basis.proofs.Std.{rules}
use Rattle.store_pool.proofs.PoolLaws.{index_within, settle_none, settle_one}
use Rattle.store_pool.proofs.change.settle.Goals as goal

pub put_place-requires : goal.put_place-requires
put_place-requires c = (search rules, index_within c.args.w.now c.args.l c.args.sequence c.in-At.ensures)

pub returns-in-At : goal.returns-in-At
returns-in-At c = settle_one c.args.w.now c.args.l c.args.sequence c.in-At.ensures c.put_place.new.w c.put_place.ensures

pub returns-in_default : goal.returns-in_default
returns-in_default c = settle_none c.args.w.now c.args.l c.args.sequence c.in_default.ensures
