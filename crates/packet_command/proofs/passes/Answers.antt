use Rattle.basis.proofs.Std.{sym, ap, ◌∙◌}
use Rattle.packet_lookup.specs.declared.Sought.{Sought}
use Rattle.store_table.specs.Layout.{table_of}
use Rattle.packet_command.specs.Commanding.{passes}
use Rattle.packet_command.proofs.passes.Goals as goal

pub returns-in-Is : goal.returns-in-Is
returns-in-Is c =
    c.all_commands.ensures ∙ ap (λ (x : Sought). passes (table_of c.args.t.now) c.args.f x) (sym c.in-Is.is)

pub returns-in-Nothing : goal.returns-in-Nothing
returns-in-Nothing c =
    ap (λ (x : Sought). passes (table_of c.args.t.now) c.args.f x) (sym c.in-Nothing.is)
