use Rattle.basis.proofs.Std.{ap, ◌∙◌, mod-lt, ℤ}
use lib.Pow.{pow_pos}
use mir.Syntax.{w32}
use mir.Val.{to_z, of_z}
use Rattle.bits.specs.Fields.{field_of}
use Rattle.number.specs.Signed.{signed16_of, at_most}
use Rattle.number.proofs.RoundTrip.{passed_on_16}
use Rattle.table_row.specs.Rows.{good_range}
use Rattle.table_row.proofs.good_range.Goals as goal

pub returns : goal.returns
unfolding good_range
returns c =
    let n = c.args.n in
    let low = c.signed16_of.ensures ∙ ap signed16_of c.field-lowest.ensures in
    let high = c.signed16_of-2.ensures ∙ ap signed16_of c.field-highest.ensures in
    let e = ap (λ (z : ℤ). to_z w32 (of_z w32 z)) low ∙ passed_on_16 (field_of n 16 16) (mod-lt _ (pow_pos 16)) in
    let f = ap (λ (z : ℤ). to_z w32 (of_z w32 z)) high ∙ passed_on_16 (field_of n 0 16) (mod-lt _ (pow_pos 16)) in
    c.at_most.ensures ∙ (λ i. at_most (e i) (f i))
