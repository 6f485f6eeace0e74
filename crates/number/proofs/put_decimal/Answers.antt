use Rattle.basis.proofs.Std.{◌-◌, length, take, drop, ◌≡◌, ◌∙◌, arith, rules}
use Rattle.number.specs.Decimal.{digits}
use Rattle.number.proofs.Places.{from_on}
use Rattle.number.proofs.put_decimal.Goals as goal

pub slice_bounds-put_bytes-end : goal.slice_bounds-put_bytes-end
slice_bounds-put_bytes-end c =
    let e : length c.digits_of-t.result.bytes ≡ 21 = search rules in
    omega (arith, e)

pub returns : goal.returns
returns c =
    let t = c.digits_of-t in
    let l : length t.result.bytes ≡ 21 = search rules in
    let e : take (21 - t.result.from) (drop t.result.from t.result.bytes) ≡ digits c.args.n = from_on t.result.bytes 21 t.result.from l ∙ t.ensures.0 in
    rw (← e) c.put_bytes.ensures
