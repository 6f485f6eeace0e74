-- `store_link::slots::put_eight` meets its contract.
-- Assumes nothing.
use Rattle.basis.proofs.Std.{arith, length-set, rules}
use Rattle.store_link.proofs.Ids.{eight_put}
use Rattle.store_link.proofs.slots.put_eight.Goals as goal

pub bounds-b-at-2 : goal.bounds-b-at-2
bounds-b-at-2 c = simp length-set (omega arith)

pub bounds-b-at-3 : goal.bounds-b-at-3
bounds-b-at-3 c = simp length-set (omega arith)

pub bounds-b-at-4 : goal.bounds-b-at-4
bounds-b-at-4 c = simp length-set (omega arith)

pub bounds-b-at-5 : goal.bounds-b-at-5
bounds-b-at-5 c = simp length-set (omega arith)

pub bounds-b-at-6 : goal.bounds-b-at-6
bounds-b-at-6 c = simp length-set (omega arith)

pub bounds-b-at-7 : goal.bounds-b-at-7
bounds-b-at-7 c = simp length-set (omega arith)

pub bounds-b-at-8 : goal.bounds-b-at-8
bounds-b-at-8 c = simp length-set (omega arith)

pub returns : goal.returns
returns c =
    eight_put c.args.b.now c.args.at c.args.x (search rules) c.byte.ensures c.byte-2.ensures c.byte-3.ensures c.byte-4.ensures c.byte-5.ensures c.byte-6.ensures c.byte-7.ensures c.byte-8.ensures
