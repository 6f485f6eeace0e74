use Rattle.basis.proofs.Std.{rules, ◌∙◌}
use Rattle.read_head.specs.Small.{alarm_at}
use Rattle.read_head.proofs.read_alarm.Goals as goal

pub returns : goal.returns
unfolding alarm_at
returns c = c.alarm_of.ensures ∙ rw (c.own_label-component.ensures, c.own_label-code.ensures, c.own_order-order.ensures)
