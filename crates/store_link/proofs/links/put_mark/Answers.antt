-- `store_link::links::put_mark` meets its contract.
-- Assumes nothing.
use Rattle.store_link.proofs.RowLaws.{marks_put}
use Rattle.basis.proofs.Std.{arith, length-set, rules}
use Rattle.store_link.proofs.links.put_mark.Goals as goal

pub bounds-w-i-2 : goal.bounds-w-i-2
bounds-w-i-2 c = simp length-set (omega arith)

pub bounds-w-i-3 : goal.bounds-w-i-3
bounds-w-i-3 c = simp length-set (omega arith)

pub bounds-w-i-4 : goal.bounds-w-i-4
bounds-w-i-4 c = simp length-set (omega arith)

pub returns : goal.returns
returns c =
    marks_put c.args.w.now c.args.i c.args.a c.args.b c.args.c c.args.d (search rules) c.from.ensures c.from-2.ensures c.from-3.ensures c.from-4.ensures
