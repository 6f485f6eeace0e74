-- `store_link::slots::full_at` meets its contract.
-- Assumes nothing.
use Rattle.basis.proofs.Std.{sym, ◌∙◌, arith}
use Rattle.store_link.proofs.Asked.{taken, taken_on, not_full, full}
use Rattle.store_link.proofs.slots.full_at.Goals as goal

pub loop-k-init : goal.loop-k-init
loop-k-init c = taken c.args.w.now c.args.i

pub returns-then-is_free : goal.returns-then-is_free
returns-then-is_free c =
    let l = c.loop-k in
    not_full c.args.w.now c.args.i l.k (omega arith) l.invariant (sym c.is_free.ensures ∙ c.if-is_free.true)

pub loop-k-preserved : goal.loop-k-preserved
loop-k-preserved c =
    let l = c.loop-k in
    taken_on c.args.w.now c.args.i l.k (omega arith) l.invariant (sym c.is_free.ensures ∙ c.if-is_free.false)

pub returns : goal.returns
returns c =
    let l = c.loop-k in
    full c.args.w.now c.args.i l.k (omega arith) l.invariant
