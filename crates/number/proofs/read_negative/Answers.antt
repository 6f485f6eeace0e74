use Rattle.basis.proofs.Std.{◌≡◌, ap, ◌∙◌, ◌+◌, ◌-◌, ◌^◌, ◌<◌, arith, ℤ}
use mir.Syntax.{w32}
use mir.Val.{to_z, of_z}
use Rattle.number.specs.Decimal.{digits}
use Rattle.number.specs.Signed.{signed_of}
use Rattle.number.proofs.RoundTrip.{passed_on}
use Rattle.number.proofs.Reading.{was, was_none, below_zero, no_minus_zero, no_digits}
use Rattle.number.proofs.read_negative.Goals as goal

pub returns-then-n-eq0 : goal.returns-then-n-eq0
returns-then-n-eq0 c =
    let w = was c.read_decimal.ensures c.in-Is.is in
    no_minus_zero (w.1 ∙ ap digits c.if-n-eq0.true)

pub returns-else-n-eq0 : goal.returns-else-n-eq0
returns-else-n-eq0 c =
    let n = c.in-Is.n in
    let w = was c.read_decimal.ensures c.in-Is.is in
    let p : 0 < n = omega (arith, c.if-n-eq0.false) in
    let k : 0xffff_ffff - n + 1 ≡ 2 ^ 32 - n = omega (arith, w.0) in
    let q : to_z w32 (of_z w32 c.signed_of-v.result) ≡ signed_of (2 ^ 32 - n) =
    ap (λ (z : ℤ). to_z w32 (of_z w32 z)) (c.signed_of-v.ensures ∙ ap signed_of k) ∙ passed_on (2 ^ 32 - n) (omega arith) in
    rw q (below_zero n p w.0 w.1)

pub returns-in-No : goal.returns-in-No
returns-in-No c = no_digits (was_none c.read_decimal.ensures c.in-No.is)
