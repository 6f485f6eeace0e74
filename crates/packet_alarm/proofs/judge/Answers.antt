use Rattle.store_table.specs.Layout.{table_of}
use Rattle.store_site.specs.Layout.{site_of}
use Rattle.packet_answer.proofs.Choices.{good, missing, bad}
use Rattle.packet_alarm.specs.Orders.{found_taken}
use Rattle.packet_alarm.proofs.Asked.{alarm_judged}
use Rattle.packet_alarm.proofs.judge.Goals as goal

pub returns-in-Good : goal.returns-in-Good
returns-in-Good c =
    let t = table_of c.args.t.now in
    let ps = c.args.p.now in
    let ws = c.args.w.now in
    alarm_judged t ps ws c.args.q c.args.f (good t ps ws c.args.q c.args.f.verdict (found_taken (site_of ps ws t) c.args.q c.args.f) c.in-Good.is c.find.ensures)

pub returns-in-Missing : goal.returns-in-Missing
returns-in-Missing c =
    let t = table_of c.args.t.now in
    let ps = c.args.p.now in
    let ws = c.args.w.now in
    alarm_judged t ps ws c.args.q c.args.f (missing t ps ws c.args.q c.args.f.verdict (found_taken (site_of ps ws t) c.args.q c.args.f) c.in-Missing.is (c.not_ack.ensures ps t))

pub returns-in-Bad : goal.returns-in-Bad
returns-in-Bad c =
    let t = table_of c.args.t.now in
    let ps = c.args.p.now in
    let ws = c.args.w.now in
    alarm_judged t ps ws c.args.q c.args.f (bad t ps ws c.args.q c.args.f.verdict (found_taken (site_of ps ws t) c.args.q c.args.f) c.in-Bad.is (c.not_ack-in-Bad.ensures ps t))
