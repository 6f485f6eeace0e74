use Rattle.basis.proofs.Std.{sym, ◌∙◌}
use Rattle.store_table.specs.Layout.{table_of}
use Rattle.packet_answer.specs.Taken.{unknown_component, unknown_alarm}
use Rattle.packet_answer.proofs.Choices.{not_acked_lem}
use Rattle.packet_alarm.proofs.Asked.{found}
use Rattle.packet_alarm.proofs.find.Goals as goal

pub returns-in-Alarm : goal.returns-in-Alarm
returns-in-Alarm c =
    let t = table_of c.args.t.now in
    let ps = c.args.p.now in
    let ws = c.args.w.now in
    found t ps ws c.args.q c.args.f (sym c.alarm_of-a.ensures ∙ c.in-Alarm.is) c.ordered.ensures

pub returns-in-NoComponent : goal.returns-in-NoComponent
returns-in-NoComponent c =
    let t = table_of c.args.t.now in
    let ps = c.args.p.now in
    let ws = c.args.w.now in
    found t ps ws c.args.q c.args.f (sym c.alarm_of-a.ensures ∙ c.in-NoComponent.is)
    (not_acked_lem t ps ws c.args.q unknown_component (c.not_ack.ensures ps t))

pub returns-in-NoAlarm : goal.returns-in-NoAlarm
returns-in-NoAlarm c =
    let t = table_of c.args.t.now in
    let ps = c.args.p.now in
    let ws = c.args.w.now in
    found t ps ws c.args.q c.args.f (sym c.alarm_of-a.ensures ∙ c.in-NoAlarm.is)
    (not_acked_lem t ps ws c.args.q unknown_alarm (c.not_ack-in-NoAlarm.ensures ps t))
