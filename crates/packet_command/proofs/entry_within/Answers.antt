use Rattle.basis.proofs.Std.{◌≡◌, ap₂, ◌∙◌, ℤ, rules}
use mir.Syntax.{w32}
use mir.Val.{to_z, of_z}
use Rattle.packet_lookup.specs.declared.Sought.{Sought}
use Rattle.store_table.specs.Layout.{table_of}
use Rattle.packet_command.specs.Commanding.{within}
use Rattle.packet_command.proofs.entry_within.Goals as goal

pub returns : goal.returns
returns c =
    let v : to_z w32 (of_z w32 c.args.e.value) ≡ c.args.e.value = search rules in
    c.within.ensures ∙ ap₂ (λ (x : Sought) (z : ℤ). within (table_of c.args.t.now) x z) c.command.ensures v
