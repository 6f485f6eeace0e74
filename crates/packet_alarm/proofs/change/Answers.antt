use Rattle.basis.proofs.Std.{ap, ◌∙◌}
use Rattle.alarm.specs.declared.Alarm.{Alarm}
use Rattle.alarm.specs.Alarm.{order_of}
use Rattle.packet_alarm.proofs.Changes.{orders_it}
use Rattle.packet_alarm.proofs.change.Goals as goal

pub returns : goal.returns
returns c =
    λ t. orders_it t c.args.p.now c.args.w.now c.args.q c.args.k c.args.order (c.order.ensures ∙ ap (λ (x : Alarm). order_of x c.args.order c.args.q.time) (c.alarm-a.ensures c.args.p.now t)) (c.changed.ensures t)
