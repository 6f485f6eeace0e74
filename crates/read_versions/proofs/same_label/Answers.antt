use Rattle.basis.proofs.Std.{◌≡◌, length, rules}
use Rattle.label.proofs.Text.{text_part}
use Rattle.read_versions.proofs.same_label.Goals as goal

pub slice_bounds-is-end : goal.slice_bounds-is-end
slice_bounds-is-end c =
    let e : length c.args.b.bytes ≡ 32 = search rules in
    search rules

pub returns : goal.returns
returns c =
    let l = c.args.b in
    let k = text_part l (search rules) _ c.size-n.ensures in
    rw (← k) c.is.ensures
