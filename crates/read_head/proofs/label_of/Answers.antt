use Rattle.basis.proofs.Std.{rules, ◌≡◌, sym, ap, ◌∙◌, length}
use Rattle.read_head.specs.Values.{got_label}
use Rattle.read_head.proofs.Copies.{is_lent, not_copy, not_there}
use Rattle.read_head.proofs.label_of.Goals as goal

pub slice_bounds-label_text-end : goal.slice_bounds-label_text-end
slice_bounds-label_text-end c =
    let z : length c.args.e.copy.bytes ≡ 36 = search rules in
    search rules

pub returns-then-c : goal.returns-then-c
returns-then-c c =
    let e = c.args.e in
    let z : length e.copy.bytes ≡ 36 = search rules in
    c.label_text.ensures ∙ ap got_label (is_lent e c.if-e.true c.if-c.true z _ c.at_most_36-n.ensures)

pub returns-else-c : goal.returns-else-c
returns-else-c c = c.no_label.ensures ∙ ap got_label (sym (not_copy c.args.e c.if-e.true c.if-c.false))

pub returns-else-e : goal.returns-else-e
returns-else-e c = c.no_label-else-e.ensures ∙ ap got_label (sym (not_there c.args.e c.if-e.false))
