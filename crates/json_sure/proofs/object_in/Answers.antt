-- `json_sure::object_in` meets its contract.
-- Assumes nothing.
use Rattle.basis.proofs.Std.{refl, subst, ◌∙◌, Bool, [], arith, rules, length}
use Rattle.json_value.proofs.Nesting.{items_last, items_neither, items_next, comma_after, comma_in, inside_items}
use Rattle.json_sure.specs.Sure.{Noted, noted_in}
use Rattle.json_sure.proofs.Notes.{none_noted_lem, enters_rest, noted_rest, sure_rest}
use Rattle.json_sure.proofs.Saying.{ItemsSay, say_last, say_next, judged_past, judged_empty, inside_say}
use Rattle.json_sure.proofs.Listing.{eight, found_first, found_next, found_last, count_first, count_next, count_last, count_none, finds_bad, finds_empty, finds_all}
use Rattle.json_sure.proofs.object_in.Goals as goal

pub returns-then-s-k : goal.returns-then-s-k
returns-then-s-k c = (judged_past _ _ _ _ 8 _ _ eight c.space-k.ensures c.if-s-k.true, finds_bad _ _ _)

pub returns-then-s-k-eq125 : goal.returns-then-s-k-eq125
returns-then-s-k-eq125 c = (judged_empty _ _ _ _ 8 _ _ eight c.space-k.ensures c.if-s-k.false c.if-s-k-eq125.true, finds_empty _ _ _ _ _ (count_none _ _ _ c.space-k.ensures c.if-s-k.false c.if-s-k-eq125.true))

pub loop-e-init : goal.loop-e-init
loop-e-init c =
    let ws = c.space-k.ensures in
    let there = c.if-s-k.false in
    (omega arith, refl, omega arith, inside_items _ _ 8 _ _ eight ws there c.if-s-k-eq125.false, λ q y. inside_say _ _ _ _ 8 _ _ eight ws there c.if-s-k-eq125.false q (rw (none_noted_lem c.args.marks.now) at y), refl, omega arith, found_first _ _ _ ws there c.if-s-k-eq125.false c.args.places.now, count_first _ _ _ ws there c.if-s-k-eq125.false)

pub offset_bounds-marks-count : goal.offset_bounds-marks-count
offset_bounds-marks-count c = omega (arith, c.loop-e.invariant.1, c.loop-e.invariant.2)

pub overflow_add-n : goal.overflow_add-n
overflow_add-n c = omega (arith, c.loop-e.invariant.0, c.loop-e.invariant.6)

pub shape_of-places-in-Close : goal.shape_of-places-in-Close
shape_of-places-in-Close c = c.note_place.auto.places ∙ c.loop-e.invariant.5

pub returns-in-Close : goal.returns-in-Close
returns-in-Close c =
    let xs = c.loop-e.marks in
    let u = c.loop-e.seen in
    let m = c.mark_at.result in
    let e = rw c.in-Close.is at c.entry-m.ensures in
    let f = enters_rest _ xs [] u c.loop-e.invariant.1 c.loop-e.invariant.2 e in
    let n = sure_rest _ xs c.entry-m.new.marks u c.loop-e.invariant.1 c.loop-e.invariant.2 (search rules) m c.in-Close.q c.note-t.new.marks c.note-t.result c.note-t.ensures in (
      record { place = c.loop-e.invariant.3 _ (items_last _ _ _ _ _ e.place); says = c.loop-e.invariant.4 _ (subst (λ (z : Bool). ItemsSay c.args.key (length c.args.marks.now) c.args.s.now 0x7d 7 c.loop-e.i (noted_in xs u) z) n (say_last _ _ _ _ _ _ _ (noted_in xs u) c.mark_at.ensures _ _ f)) },
      finds_all c.args.s.now c.args.at _ _ _ _ (found_last c.args.s.now c.args.at _ _ _ _ c.note_place.auto.places c.note_place.ensures c.loop-e.invariant.7 _ e.place) (count_last c.args.s.now c.args.at _ _ c.loop-e.invariant.8 _ e.place) _ c.all_or_none.ensures,
    )

pub loop-e-smaller : goal.loop-e-smaller
loop-e-smaller c =
    let e = rw c.in-Comma.is at c.entry-m.ensures in
    omega (arith, comma_after e.place, comma_in e.place)

pub loop-e-preserved : goal.loop-e-preserved
loop-e-preserved c =
    let xs = c.loop-e.marks in
    let u = c.loop-e.seen in
    let m = c.mark_at-in-Comma.result in
    let e = rw c.in-Comma.is at c.entry-m.ensures in
    let f = enters_rest _ xs [] u c.loop-e.invariant.1 c.loop-e.invariant.2 e in
    let n = noted_rest _ xs c.entry-m.new.marks u c.loop-e.invariant.1 c.loop-e.invariant.2 (search rules) m c.in-Comma.q c.note-seen.new.marks c.note-seen.result c.note-seen.ensures in (
      comma_in e.place,
      search rules,
      c.note-seen.ensures.0,
      λ r y. c.loop-e.invariant.3 r (items_next _ _ _ _ _ e.place r y),
      λ o y. c.loop-e.invariant.4 o (say_next _ _ _ _ _ _ _ (noted_in xs u) c.mark_at-in-Comma.ensures _ _ f o (subst (λ (z : Noted). ItemsSay c.args.key (length c.args.marks.now) c.args.s.now 0x7d 7 c.in-Comma.e z o) n y)),
      c.note_place.auto.places ∙ c.loop-e.invariant.5,
      omega (arith, comma_after e.place, c.loop-e.invariant.6),
      found_next c.args.s.now c.args.at _ _ _ _ c.note_place.auto.places c.note_place.ensures c.loop-e.invariant.7 _ e.place,
      count_next c.args.s.now c.args.at _ _ c.loop-e.invariant.8 _ e.place,
    )

pub shape_of-places-in-Neither : goal.shape_of-places-in-Neither
shape_of-places-in-Neither c = c.note_place.auto.places ∙ c.loop-e.invariant.5

pub returns-in-Neither : goal.returns-in-Neither
returns-in-Neither c =
    let e = rw c.in-Neither.is at c.entry-m.ensures in
    (record { place = c.loop-e.invariant.3 _ (items_neither _ _ _ _ e.place); says = λ j u h. tt }, finds_bad _ _ _)
