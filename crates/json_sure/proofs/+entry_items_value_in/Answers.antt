-- `json_sure::entry`, `json_sure::items`, `json_sure::value_in`, which call one another with falling levels, meet their contracts.
-- Assumes nothing.
use Rattle.basis.proofs.Std.{◌-◌, refl, subst, Bool, [], arith, rules, length}
use Rattle.json_value.proofs.Nesting.{items_last, items_neither, items_next, comma_after, comma_in, inside_items}
use Rattle.json_sure.specs.Sure.{Noted, noted_in}
use Rattle.json_sure.proofs.Notes.{none_noted_lem, enters_rest, noted_rest, sure_rest}
use Rattle.json_sure.proofs.Entries.{enters_none, enters_bad, enters}
use Rattle.json_sure.proofs.Saying.{ItemsSay, say_last, say_next, judged_none, judged_past, judged_empty, inside_say, value_past, value_array, value_object, value_scalar}
use Rattle.json_sure.proofs.+entry_items_value_in.Goals as goal

pub items-returns-then-levels-eq0 : goal.items-returns-then-levels-eq0
items-returns-then-levels-eq0 t c = judged_none _ _ _ _ _ _ c.if-levels-eq0.true

pub items-returns-then-s-k : goal.items-returns-then-s-k
items-returns-then-s-k t c = judged_past _ _ _ _ _ _ _ c.if-levels-eq0.false c.space-k.ensures c.if-s-k.true

pub items-returns-then-s-k-2 : goal.items-returns-then-s-k-2
items-returns-then-s-k-2 t c = judged_empty _ _ _ _ _ _ _ c.if-levels-eq0.false c.space-k.ensures c.if-s-k.false c.if-s-k-2.true

pub items-loop-n-init : goal.items-loop-n-init
items-loop-n-init t c =
    let pos = c.if-levels-eq0.false in
    let ws = c.space-k.ensures in
    let there = c.if-s-k.false in
    (omega arith, refl, omega arith, inside_items _ _ _ _ _ pos ws there c.if-s-k-2.false, λ q y. inside_say _ _ _ _ _ _ _ pos ws there c.if-s-k-2.false q (rw (none_noted_lem c.args.marks.now) at y))

pub items-returns-in-Close : goal.items-returns-in-Close
items-returns-in-Close t c =
    let xs = c.loop-n.marks in
    let u = c.loop-n.seen in
    let m = c.mark_at.result in
    let e = rw c.in-Close.is at c.entry-m.ensures in
    let f = enters_rest _ xs [] u c.loop-n.invariant.1 c.loop-n.invariant.2 e in
    let n = sure_rest _ xs c.entry-m.new.marks u c.loop-n.invariant.1 c.loop-n.invariant.2 (search rules) m c.in-Close.q c.note-t.new.marks c.note-t.result c.note-t.ensures in
    record { place = c.loop-n.invariant.3 _ (items_last _ _ _ _ _ e.place); says = c.loop-n.invariant.4 _ (subst (λ (z : Bool). ItemsSay c.args.key (length c.args.marks.now) c.args.s.now c.args.close (c.args.levels - 1) c.loop-n.i (noted_in xs u) z) n (say_last _ _ _ _ _ _ _ (noted_in xs u) c.mark_at.ensures _ _ f)) }

pub items-loop-n-smaller : goal.items-loop-n-smaller
items-loop-n-smaller t c =
    let e = rw c.in-Comma.is at c.entry-m.ensures in
    omega (arith, comma_after e.place, comma_in e.place)

pub items-loop-n-preserved : goal.items-loop-n-preserved
items-loop-n-preserved t c =
    let xs = c.loop-n.marks in
    let u = c.loop-n.seen in
    let m = c.mark_at-in-Comma.result in
    let e = rw c.in-Comma.is at c.entry-m.ensures in
    let f = enters_rest _ xs [] u c.loop-n.invariant.1 c.loop-n.invariant.2 e in
    let n = noted_rest _ xs c.entry-m.new.marks u c.loop-n.invariant.1 c.loop-n.invariant.2 (search rules) m c.in-Comma.q c.note-seen.new.marks c.note-seen.result c.note-seen.ensures in
    (comma_in e.place, search rules, c.note-seen.ensures.0, λ r y. c.loop-n.invariant.3 r (items_next _ _ _ _ _ e.place r y), λ o y. c.loop-n.invariant.4 o (say_next _ _ _ _ _ _ _ (noted_in xs u) c.mark_at-in-Comma.ensures _ _ f o (subst (λ (z : Noted). ItemsSay c.args.key (length c.args.marks.now) c.args.s.now c.args.close (c.args.levels - 1) c.in-Comma.n z o) n y)))

pub items-returns-in-Neither : goal.items-returns-in-Neither
items-returns-in-Neither t c =
    let e = rw c.in-Neither.is at c.entry-m.ensures in
    record { place = c.loop-n.invariant.3 _ (items_neither _ _ _ _ e.place); says = λ j u h. tt }

pub entry-returns-in_default : goal.entry-returns-in_default
entry-returns-in_default t c = enters_none _ _ _ _ _ _ (rw c.in_default.is at c.start.ensures)

pub entry-returns-in_default-value_in : goal.entry-returns-in_default-value_in
entry-returns-in_default-value_in t c = enters_bad _ _ _ _ _ _ _ (rw c.in-End.is at c.start.ensures) (rw c.in_default-value_in.is at c.value_in.ensures)

pub entry-returns : goal.entry-returns
entry-returns t c = rw c.followed.ensures (enters _ _ _ _ _ _ _ (rw c.in-End.is at c.start.ensures) _ _ (rw c.in-End-value_in.is at c.value_in.ensures) _ c.after.ensures)

pub value_in-returns-then-s-at : goal.value_in-returns-then-s-at
value_in-returns-then-s-at t c = value_past _ _ _ _ _ c.if-s-at.true

pub value_in-returns-in-91 : goal.value_in-returns-in-91
value_in-returns-in-91 t c = value_array _ _ _ _ _ c.if-s-at.false _ c.in-91.is c.items.ensures

pub value_in-returns-in-123 : goal.value_in-returns-in-123
value_in-returns-in-123 t c = value_object _ _ _ _ _ c.if-s-at.false _ c.in-123.is c.items-in-123.ensures

pub value_in-returns-in_default : goal.value_in-returns-in_default
value_in-returns-in_default t c = rw c.ended.ensures (value_scalar _ _ _ _ _ c.if-s-at.false _ (search rules) (search rules) c.value.ensures)
