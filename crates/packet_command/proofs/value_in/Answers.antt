use Rattle.basis.proofs.Std.{◌≡◌, sym, ap, ◌∙◌, rules}
use mir.Syntax.{w32}
use mir.Val.{to_z, of_z}
use Rattle.packet_lookup.specs.declared.Sought.{Sought}
use Rattle.write_message.specs.declared.Value.TheVariants.{Recent}
use Rattle.packet_command.specs.Commanding.{value_in}
use Rattle.packet_command.proofs.value_in.Goals as goal

pub returns-in-Is : goal.returns-in-Is
returns-in-Is c =
    let v : to_z w32 (of_z w32 c.args.e.value) ≡ c.args.e.value = search rules in
    ap Recent v ∙ ap (λ (x : Sought). value_in x c.args.e) (sym c.in-Is.is)
