-- `store_whole::put_head` meets its contract.
-- Assumes nothing.
use Rattle.basis.proofs.Std.{arith, length-set, rules}
use Rattle.store_whole.proofs.ListLaws.{head_turns}
use Rattle.store_whole.proofs.put_head.Goals as goal

pub bounds-w-4 : goal.bounds-w-4
bounds-w-4 c = simp length-set (omega arith)

pub returns : goal.returns
returns c =
    head_turns c.args.w.now c.args.next c.args.last c.args.site c.args.period c.args.links c.args.primary c.args.changed (search rules) (search rules) (search rules) (search rules) (search rules) c.numbers-both.ensures
