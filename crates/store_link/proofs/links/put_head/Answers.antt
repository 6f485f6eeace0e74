-- `store_link::links::put_head` meets its contract.
-- Assumes nothing.
use Rattle.basis.proofs.Std.{arith, length-set, rules}
use Rattle.store_link.proofs.RowLaws.{head_put}
use Rattle.store_link.proofs.links.put_head.Goals as goal

pub bounds-w-i-2 : goal.bounds-w-i-2
bounds-w-i-2 c = simp length-set (omega arith)

pub bounds-w-i-3 : goal.bounds-w-i-3
bounds-w-i-3 c = simp length-set (omega arith)

pub returns : goal.returns
returns c =
    head_put c.args.w.now c.args.i c.args.beat c.args.alarm c.args.major c.args.minor c.args.patch (search rules) (search rules) (search rules) (search rules) (search rules) c.pair-high.ensures c.pair-low.ensures
