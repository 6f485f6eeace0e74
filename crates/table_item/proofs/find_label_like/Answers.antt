use Rattle.basis.proofs.Std.{◌≡◌, ap, ◌∙◌, length, rules}
use Rattle.label.proofs.Text.{text_part}
use Rattle.table_item.specs.Find.{find_label}
use Rattle.table_item.proofs.find_label_like.Goals as goal

pub slice_bounds-find_label-end : goal.slice_bounds-find_label-end
slice_bounds-find_label-end c =
    let e : length c.args.l.bytes ≡ 32 = search rules in
    search rules

pub returns : goal.returns
returns c =
    let k = text_part c.args.l (search rules) _ c.size-n.ensures in
    c.find_label.ensures ∙ ap (find_label c.args.labels.now c.args.count) k
