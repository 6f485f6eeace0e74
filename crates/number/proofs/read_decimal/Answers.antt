use Rattle.basis.proofs.Std.{◌≡◌, sym, ap, ◌∙◌, arith, length, rules}
use Rattle.std.specs.Cmp.Lexicographic.{same_text, other_text}
use Rattle.number.specs.Decimal.{digits}
use Rattle.number.specs.Reading.{is}
use Rattle.number.proofs.Places.{from_on}
use Rattle.number.proofs.Reading.{too_long, too_much, unlike}
use Rattle.number.proofs.read_decimal.Goals as goal

pub returns-then-s-gt10 : goal.returns-then-s-gt10
returns-then-s-gt10 c = too_long c.ranges.limit.fits c.if-s-gt10.true

pub returns-then-from-n : goal.returns-then-from-n
returns-then-from-n c = too_much (omega (arith, c.said-n.ensures, c.from.ensures, c.if-from-n.true))

pub returns-then-eq : goal.returns-then-eq
returns-then-eq c =
    let t = c.digits_of-t in
    let l : length t.result.bytes ≡ 21 = search rules in
    is _ (omega (arith, c.from.ensures, c.if-from-n.false)) (same_text _ _ c.if-eq.ensures ∙ from_on t.result.bytes 21 t.result.from l ∙ t.ensures.0)

pub returns-else-eq : goal.returns-else-eq
returns-else-eq c =
    let t = c.digits_of-t in
    let l : length t.result.bytes ≡ 21 = search rules in
    let e = from_on t.result.bytes 21 t.result.from l ∙ t.ensures.0 ∙ ap digits c.said-n.ensures in
    unlike (λ q. other_text _ _ c.if-eq.ensures (q ∙ sym e))
