-- `store_link::slots::awaited_at` meets its contract.
-- Assumes nothing.
use Rattle.basis.proofs.Std.{◌≡◌, ◌∙◌, arith, rules, length, length-set}
use Rattle.awaited.specs.Slot.{free_slot}
use Rattle.store_words.proofs.Elements.{fill_next}
use Rattle.store_link.proofs.Ids.{slot_whole}
use Rattle.store_link.proofs.RowLaws.{awaited_get}
use Rattle.store_link.proofs.slots.awaited_at.Goals as goal

pub loop-k-init : goal.loop-k-init
loop-k-init c = (search rules, λ j h. absurd (omega arith))

pub slot_at-requires : goal.slot_at-requires
slot_at-requires c =
    let e : length c.ids_at-b.result ≡ 256 = search rules in
    omega arith

pub loop-k-preserved : goal.loop-k-preserved
loop-k-preserved c =
    let l = c.loop-k in
    let e = c.slot_at.ensures ∙ slot_whole c.args.w.now c.ids_at-b.result c.args.i l.k c.ids_at-b.ensures (omega arith) in
    (length-set l.slots l.k c.slot_at.result ∙ l.invariant.0, fill_next _ l.slots l.k free_slot c.slot_at.result (omega arith) l.invariant.1 e)

pub returns : goal.returns
returns c =
    let l = c.loop-k in
    awaited_get c.args.w.now c.args.i l.slots l.k (omega arith) l.invariant.0 l.invariant.1
