use Rattle.store_table.specs.Layout.{table_of}
use Rattle.store_site.specs.Layout.{site_of}
use Rattle.packet_lookup.specs.Sought.{component_sought}
use Rattle.packet_answer.proofs.Choices.{good, missing, bad}
use Rattle.packet_alarm.specs.Orders.{aggregated_of}
use Rattle.packet_alarm.proofs.Asked.{aggregated_judged}
use Rattle.packet_alarm.proofs.judge_aggregated.Goals as goal

pub returns-in-Good : goal.returns-in-Good
returns-in-Good c ps =
    let t = table_of c.args.t.now in
    let ws = c.args.w.now in
    aggregated_judged t ps ws c.args.q c.args.f (good t ps ws c.args.q c.args.f.verdict (aggregated_of (site_of ps ws t) c.args.q (component_sought t c.args.f.label)) c.in-Good.is (c.aggregated_for.ensures ps))

pub returns-in-Missing : goal.returns-in-Missing
returns-in-Missing c ps =
    let t = table_of c.args.t.now in
    let ws = c.args.w.now in
    aggregated_judged t ps ws c.args.q c.args.f (missing t ps ws c.args.q c.args.f.verdict (aggregated_of (site_of ps ws t) c.args.q (component_sought t c.args.f.label)) c.in-Missing.is (c.not_ack.ensures ps t))

pub returns-in-Bad : goal.returns-in-Bad
returns-in-Bad c ps =
    let t = table_of c.args.t.now in
    let ws = c.args.w.now in
    aggregated_judged t ps ws c.args.q c.args.f (bad t ps ws c.args.q c.args.f.verdict (aggregated_of (site_of ps ws t) c.args.q (component_sought t c.args.f.label)) c.in-Bad.is (c.not_ack-in-Bad.ensures ps t))
