use Rattle.basis.proofs.Std.{ℕ, ◌<◌, ◌^◌, ◌≡◌, ap, ap₂, ◌∙◌, sym, true, false, ℤ, rules}
use mir.Syntax.{w32}
use mir.Val.{to_z, of_z}
use mir.Facts.{to_z-of_z}
use Rattle.number.specs.Signed.{signed16_of, at_most}
use Rattle.number.proofs.RoundTrip.{passed_on_16}
use Rattle.packet_command.proofs.in_range.Goals as goal

passed_on : {x : ℤ} (n : ℕ) → n < 2 ^ 16 → x ≡ signed16_of n → to_z w32 (of_z w32 x) ≡ signed16_of n
passed_on n h e = ap (λ (x : ℤ). to_z w32 (of_z w32 x)) e ∙ passed_on_16 n h

pub returns-then-at_most : goal.returns-then-at_most
returns-then-at_most c =
    let row = c.args.row in
    let v = to_z-of_z c.ranges.v in
    let low : at_most (signed16_of row.lowest) c.args.v ≡ true = sym (c.at_most.ensures ∙ ap₂ at_most (passed_on row.lowest (search rules) c.signed16_of-lowest.ensures) v) ∙ c.if-at_most.true in
    rw low (c.at_most-then-at_most.ensures ∙ ap₂ at_most v (passed_on row.highest (search rules) c.signed16_of-highest.ensures))

pub returns-else-at_most : goal.returns-else-at_most
returns-else-at_most c =
    let row = c.args.row in
    let low : at_most (signed16_of row.lowest) c.args.v ≡ false =
    sym (c.at_most.ensures ∙ ap₂ at_most (passed_on row.lowest (search rules) c.signed16_of-lowest.ensures) (to_z-of_z c.ranges.v)) ∙ c.if-at_most.false in
    rw low c.if-at_most.false
