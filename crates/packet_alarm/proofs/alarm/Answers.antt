use Rattle.basis.proofs.Std.{sym}
use Rattle.read_head.specs.declared.AlarmFields.{AlarmFields}
use Rattle.store_table.specs.Layout.{table_of}
use Rattle.store_site.specs.Layout.{site_of}
use Rattle.packet_answer.proofs.Choices.{like}
use Rattle.packet_alarm.specs.Orders.{alarm_taken}
use Rattle.packet_alarm.proofs.alarm.Goals as goal

pub returns : goal.returns
returns c =
    let t = table_of c.args.t.now in
    let ps = c.args.p.now in
    let ws = c.args.w.now in
    like t ps ws c.args.q (λ (x : AlarmFields). alarm_taken (site_of ps ws t) c.args.q x) (sym c.read_alarm-f.ensures) c.judge.ensures
