use Rattle.basis.proofs.Std.{◌≡◌, ap, ◌∙◌, ◌^◌, ◌<◌, ◌≤◌, arith}
use mir.Facts.{to_z-of_z}
use Rattle.number.specs.Signed.{word_of}
use Rattle.number.proofs.Sign.{signed_fits}
use Rattle.number.proofs.Digits.{decimal_pos, decimal_neg}
use Rattle.number.proofs.put_i32.Goals as goal

pub returns-then-w-lt2147483648 : goal.returns-then-w-lt2147483648
returns-then-w-lt2147483648 c =
    let w = c.word_of-w in
    let e : w.result ≡ word_of c.args.v = w.ensures ∙ ap word_of (to_z-of_z c.ranges.v) in
    let h : word_of c.args.v < 2 ^ 31 = omega (arith, e, c.if-w-lt2147483648.true) in
    rw (decimal_pos c.args.v (signed_fits c.args.v c.ranges.v) h, ← e, ← c.from.ensures) c.put_decimal.ensures

pub returns-else-w-lt2147483648 : goal.returns-else-w-lt2147483648
returns-else-w-lt2147483648 c =
    let w = c.word_of-w in
    let e : w.result ≡ word_of c.args.v = w.ensures ∙ ap word_of (to_z-of_z c.ranges.v) in
    let h : 2 ^ 31 ≤ word_of c.args.v = omega (arith, e, c.if-w-lt2147483648.false) in
    rw (decimal_neg c.args.v (signed_fits c.args.v c.ranges.v) h, ← e, ← c.from-else-w-lt2147483648.ensures) c.put_negative.ensures
