use Rattle.basis.proofs.Std.{◌≡◌, sym, ap, subst, ◌∙◌, ℕ, ◌≤◌}
use Rattle.identity.specs.Hex.{hex_value, lower_hex}
use Rattle.identity.proofs.Hex.{value_below}
use Rattle.identity.proofs.value.Goals as goal

pub returns : goal.returns
returns c =
    let e : c.hex_value.result ≡ hex_value (lower_hex c.args.c) = c.hex_value.ensures ∙ ap hex_value c.lower_hex.ensures in
    (e, subst (λ (n : ℕ). n ≤ 15) (sym e) (value_below _))
