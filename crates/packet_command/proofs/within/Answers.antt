use Rattle.basis.proofs.Std.{sym, ap, ap₂, ◌∙◌}
use mir.Facts.{to_z-of_z}
use Rattle.packet_lookup.specs.declared.Sought.{Sought}
use Rattle.store_table.specs.Layout.{table_of}
use Rattle.packet_command.specs.Commanding.{in_range, within}
use Rattle.packet_command.proofs.within.Goals as goal

pub returns-in-Is : goal.returns-in-Is
returns-in-Is c =
    c.in_range.ensures
    ∙ ap₂ in_range c.command_row.ensures (to_z-of_z c.ranges.v)
    ∙ ap (λ (x : Sought). within (table_of c.args.t.now) x c.args.v) (sym c.in-Is.is)
