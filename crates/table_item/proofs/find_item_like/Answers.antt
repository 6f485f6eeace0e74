use Rattle.basis.proofs.Std.{◌≡◌, length, rules}
use Rattle.label.proofs.Text.{text_part}
use Rattle.table_item.proofs.find_item_like.Goals as goal

pub slice_bounds-find_item-end : goal.slice_bounds-find_item-end
slice_bounds-find_item-end c =
    let e : length c.args.row.code.bytes ≡ 32 = search rules in
    search rules

pub slice_bounds-find_item-end-2 : goal.slice_bounds-find_item-end-2
slice_bounds-find_item-end-2 c =
    let e : length c.args.row.name.bytes ≡ 32 = search rules in
    search rules

pub returns : goal.returns
returns c =
    let g = c.well_formed in
    let k = text_part c.args.row.code (search rules) _ c.size-m.ensures in
    let m = text_part c.args.row.name (search rules) _ c.size-n.ensures in
    rw (k, m) at c.find_item.ensures
