use Rattle.basis.proofs.Std.{◌≡◌, refl, sym, ap, subst, ◌∙◌, List, ◌∷◌, ℕ, ◌-◌, ◌<◌, arith, ℤ, length, take, drop, drop-cons}
use mir.Syntax.{w32}
use mir.Val.{to_z, of_z}
use Rattle.number.specs.Reading.{ReadsInt}
use Rattle.number.specs.Signed.{signed_of}
use Rattle.number.proofs.Places.{from_on}
use Rattle.number.proofs.RoundTrip.{passed_on}
use Rattle.number.proofs.Reading.{was, was_none, from_zero, no_plain, no_text}
use Rattle.number.proofs.read_i32.Goals as goal

pub returns-then-s-eq0 : goal.returns-then-s-eq0
returns-then-s-eq0 c = no_text c.args.s.now c.if-s-eq0.true

pub returns-then-s-eq45 : goal.returns-then-s-eq45
returns-then-s-eq45 c =
    let s = c.args.s.now in
    let h : 0 < length s = omega (arith, c.if-s-eq0.false) in
    let e : 45 ∷ take (length s - 1) (drop 1 s) ≡ s =
    ap (λ (l : List ℕ). 45 ∷ l) (from_on s (length s) 1 refl)
    ∙ ap (λ (b : ℕ). b ∷ drop 1 s) (sym c.if-s-eq45.true)
    ∙ sym (drop-cons s 0 0 h) in
    subst (λ (l : List ℕ). ReadsInt l c.read_negative.result) e c.read_negative.ensures

pub returns-in-Is : goal.returns-in-Is
returns-in-Is c =
    let n = c.in-Is.n in
    let w = was c.read_decimal.ensures c.in-Is.is in
    let q : to_z w32 (of_z w32 c.signed_of-v.result) ≡ signed_of n =
    ap (λ (z : ℤ). to_z w32 (of_z w32 z)) c.signed_of-v.ensures ∙ passed_on n (omega (arith, w.0)) in
    rw q (from_zero n (omega (arith, w.0)) w.1)

pub returns-in-No : goal.returns-in-No
returns-in-No c =
    no_plain
    (λ n h e. was_none c.read_decimal.ensures c.in-No.is n (omega arith) e)
    c.if-s-eq45.false
