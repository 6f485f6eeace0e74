-- `store_link::slots::put_slot` meets its contract.
-- Assumes nothing.
use Rattle.basis.proofs.Std.{ℕ, arith, get_or, length-set, rules}
use mir.Syntax.{w8}
use mir.Val.{Fits}
use Rattle.store_link.proofs.RowLaws.{slot_put}
use Rattle.store_link.proofs.slots.put_slot.Goals as goal

pub bounds-w-i-2 : goal.bounds-w-i-2
bounds-w-i-2 c = simp length-set (omega arith)

pub bounds-w-i-3 : goal.bounds-w-i-3
bounds-w-i-3 c = simp length-set (omega arith)

pub bounds-w-i-4 : goal.bounds-w-i-4
bounds-w-i-4 c = simp length-set (omega arith)

pub returns : goal.returns
returns c =
    let f : (j : ℕ) → Fits w8 (get_or c.args.x.id.bytes j 0) = λ j. search (c, rules) in
    slot_put c.args.w.now c.args.i c.args.x (search rules) (search rules) (search rules) (search (c, rules)) (λ j. (f j).fits) c.pair-numbers.ensures c.halves-a.ensures.first c.halves-a.ensures.second
