use Rattle.basis.proofs.Std.{rules, ◌≡◌, ap, ◌∙◌, length}
use Rattle.read_head.specs.Head.{type_of}
use Rattle.read_head.proofs.Copies.{is_lent}
use Rattle.read_head.proofs.type_of.Goals as goal

pub slice_bounds-find_type-end : goal.slice_bounds-find_type-end
slice_bounds-find_type-end c =
    let z : length c.args.e.copy.bytes ≡ 36 = search rules in
    search rules

pub returns-then-c : goal.returns-then-c
returns-then-c c =
    let e = c.args.e in
    let z : length e.copy.bytes ≡ 36 = search rules in
    c.find_type.ensures ∙ ap type_of (is_lent e c.if-e.true c.if-c.true z _ c.at_most_36-n.ensures)
