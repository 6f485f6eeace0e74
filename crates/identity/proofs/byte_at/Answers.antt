use Rattle.basis.proofs.Std.{◌≡◌, ◌+◌, arith, get_or}
use Rattle.identity.specs.Hex.{lower_hex, lowered}
use Rattle.identity.proofs.Fill.{mapped}
use Rattle.identity.proofs.byte_at.Goals as goal

pub returns : goal.returns
returns c =
    let a = c.args in
    let s = a.s.now in
    let p : get_or (lowered s) a.at 0 ≡ lower_hex (get_or s a.at 0) = mapped lower_hex s a.at (omega arith) in
    let q : get_or (lowered s) (a.at + 1) 0 ≡ lower_hex (get_or s (a.at + 1) 0) = mapped lower_hex s (a.at + 1) (omega arith) in
    rw (p, q, c.value-2.ensures.0, c.value.ensures.0)
