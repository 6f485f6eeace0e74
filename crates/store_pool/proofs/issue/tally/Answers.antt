-- `store_pool::issue::tally` meets its contract.
-- Assumes nothing.
use Rattle.basis.proofs.Std.{arith, rules}
use Rattle.store_pool.proofs.PlaceLaws.{count_free, count_out, count_one}
use Rattle.store_pool.proofs.issue.tally.Goals as goal

pub returns-then-w-i-eq0 : goal.returns-then-w-i-eq0
returns-then-w-i-eq0 c =
    count_free c.args.w.now c.args.k (search rules) c.args.held.now c.if-w-i-eq0.true

pub returns-then-o-ge8 : goal.returns-then-o-ge8
returns-then-o-ge8 c =
    count_out c.args.w.now c.args.k (search rules) c.args.held.now c.if-w-i-eq0.false c.quarter-o.ensures c.if-o-ge8.true

pub overflow_add-held : goal.overflow_add-held
overflow_add-held c = omega (arith, c.requires.1.1.1 c.quarter-o.result)

pub returns : goal.returns
returns c =
    count_one c.args.w.now c.args.k (search rules) c.args.held.now c.if-w-i-eq0.false c.quarter-o.ensures c.if-o-ge8.false (search rules)
