use Rattle.basis.proofs.Std.{◌∙◌, length, le-leb}
use Rattle.number.proofs.Alphabet.{all_is}
use Rattle.number.proofs.is_label.Goals as goal

pub returns-then-s-le32 : goal.returns-then-s-le32
returns-then-s-le32 c =
    let s = c.args.s.now in
    rw (le-leb 1 (length s) c.if-s-le32.true.0, le-leb (length s) 32 c.if-s-le32.true.1) (c.all_in_alphabet.ensures ∙ all_is s)
