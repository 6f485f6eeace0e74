use Rattle.basis.proofs.Std.{◌≡◌, ◌∙◌, sub-zero, length, same_is, rules}
use lib.Pointwise.{bytes_decides}
use Rattle.label.specs.Label.{text_of}
use Rattle.label.proofs.Text.{text_part}
use Rattle.label.proofs.is.Goals as goal

pub returns : goal.returns
returns c =
    let l = c.args.l in
    let whole : length l.bytes ≡ 32 = search rules in
    let k = rw sub-zero at (text_part l whole _ c.size-n.ensures) in
    let d = bytes_decides (text_of l) c.args.s.now in
    (rw k at c.eq.ensures) ∙ same_is _ _ _ d.0 d.1
