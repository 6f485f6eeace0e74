-- `store_link::slots::put_slots` meets its contract.
-- Assumes nothing.
use Rattle.basis.proofs.Std.{arith, rules}
use Rattle.store_words.proofs.Stores.{nothing, wider}
use Rattle.store_link.proofs.RowLaws.{slots_next, awaited_put}
use Rattle.store_link.proofs.slots.put_slots.Goals as goal

pub loop-k-init : goal.loop-k-init
loop-k-init c = record { there = λ j h. absurd (omega arith); kept = wider _ 64 (nothing _ c.args.i) (omega arith) (omega arith) }

pub loop-k-preserved : goal.loop-k-preserved
loop-k-preserved c =
    let l = c.loop-k in
    let put = c.put_slot in
    slots_next c.args.w.now l.w put.new.w c.args.i c.args.slots l.k (omega arith) l.invariant put.ensures

pub returns : goal.returns
returns c =
    let l = c.loop-k in
    awaited_put c.args.w.now l.w c.args.i c.args.slots l.k (omega arith) (search (c, rules)) l.invariant
