use Rattle.basis.proofs.Std.{◌≡◌, length, rules}
use Rattle.label.proofs.Text.{text_part}
use Rattle.write_member.proofs.label.Goals as goal

pub slice_bounds-put_bytes-end : goal.slice_bounds-put_bytes-end
slice_bounds-put_bytes-end c =
    let e : length c.args.l.bytes ≡ 32 = search rules in
    search rules

pub returns : goal.returns
returns c =
    let l = c.args.l in
    rw (← (text_part l (search rules) _ c.size-n.ensures)) c.put_bytes.ensures
