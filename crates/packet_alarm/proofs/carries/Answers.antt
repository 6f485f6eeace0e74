use Rattle.basis.proofs.Std.{ap, ◌∙◌}
use Rattle.packet_alarm.specs.Orders.{is_zero}
use Rattle.packet_alarm.proofs.carries.Goals as goal

pub returns : goal.returns
returns c =
    c.is_zero.ensures ∙ ap is_zero c.component.ensures
