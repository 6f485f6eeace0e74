-- `store_pool::places::is_mine` meets its contract.
-- Assumes nothing.
use Rattle.basis.proofs.Std.{◌∙◌, ap, eq-eqb, rules, not}
use Rattle.store_pool.proofs.PlaceLaws.{mine_not, mine_if}
use Rattle.store_pool.proofs.places.is_mine.Goals as goal

pub returns-then-w-i-ne0 : goal.returns-then-w-i-ne0
returns-then-w-i-ne0 c = mine_if c.args.w.now c.args.k (search rules) c.args.l c.if-w-i-ne0.true c.quarter.ensures

pub returns-else-w-i-ne0 : goal.returns-else-w-i-ne0
returns-else-w-i-ne0 c = ap not (eq-eqb _ 0 c.if-w-i-ne0.false) ∙ mine_not c.args.w.now c.args.k (search rules) c.args.l c.if-w-i-ne0.false
