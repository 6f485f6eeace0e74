use Rattle.basis.proofs.Std.{rules, ◌≡◌, sym, ap, ◌∙◌, length}
use Rattle.read_head.proofs.Copies.{is_lent, not_copy, not_there}
use Rattle.read_lists.specs.Version.{numbered, got_version}
use Rattle.read_lists.proofs.version_of.Goals as goal

pub slice_bounds-read_version-end : goal.slice_bounds-read_version-end
slice_bounds-read_version-end c =
    let z : length c.args.e.copy.bytes ≡ 36 = search rules in
    search rules

pub returns-then-c : goal.returns-then-c
returns-then-c c =
    let e = c.args.e in
    let z : length e.copy.bytes ≡ 36 = search rules in
    c.number_of.ensures ∙ ap numbered c.read_version.ensures ∙ ap got_version (is_lent e c.if-e.true c.if-c.true z _ c.at_most_36-n.ensures)

pub returns-else-c : goal.returns-else-c
returns-else-c c = c.no_number.ensures ∙ ap got_version (sym (not_copy c.args.e c.if-e.true c.if-c.false))

pub returns-else-e : goal.returns-else-e
returns-else-e c = c.no_number-else-e.ensures ∙ ap got_version (sym (not_there c.args.e c.if-e.false))
