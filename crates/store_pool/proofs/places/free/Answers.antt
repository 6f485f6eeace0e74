-- `store_pool::places::free` meets its contract.
-- Assumes nothing.
use Rattle.basis.proofs.Std.{◌∙◌, arith}
use Rattle.store_pool.proofs.PlaceLaws.{vacant_none, vacant_first}
use Rattle.store_pool.proofs.places.free.Goals as goal

pub returns-in_default : goal.returns-in_default
returns-in_default c = vacant_first c.args.w.now c.in-At.ensures (omega (arith, c.if-x-gt0.false))

pub returns-in_default-2 : goal.returns-in_default-2
returns-in_default-2 c = c.in_default.is ∙ vacant_none c.args.w.now c.in_default.ensures
