use Rattle.basis.proofs.Std.{◌≡◌, ap, ◌∙◌, ℕ, ◌-◌, List, ◌∷◌, arith, length, take, drop, set, length-set, rules}
use Rattle.number.specs.Decimal.{digits}
use Rattle.number.proofs.Places.{from_on, before}
use Rattle.number.proofs.put_negative.Goals as goal

pub slice_bounds-put_bytes-end : goal.slice_bounds-put_bytes-end
slice_bounds-put_bytes-end c =
    let t = c.digits_of-t in
    let l : length t.result.bytes ≡ 21 = search rules in
    simp length-set (omega (arith, l))

pub returns : goal.returns
returns c =
    let t = c.digits_of-t in
    let l : length t.result.bytes ≡ 21 = search rules in
    let m : length (set t.result.bytes (t.result.from - 1) 45) ≡ 21 = simp length-set l in
    let e : take (21 - (t.result.from - 1)) (drop (t.result.from - 1) (set t.result.bytes (t.result.from - 1) 45)) ≡ 45 ∷ digits c.args.n =
    from_on (set t.result.bytes (t.result.from - 1) 45) 21 (t.result.from - 1) m
    ∙ before t.result.bytes t.result.from 45 t.ensures.1 (omega (arith, l, t.ensures.2))
    ∙ ap (λ (s : List ℕ). 45 ∷ s) t.ensures.0 in
    rw (← e) c.put_bytes.ensures
