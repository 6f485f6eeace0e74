use Rattle.read_lists.specs.declared.Asking.TheVariants.{Plain}
use Rattle.read_lists.specs.Status.{status_at}
use Rattle.store_table.specs.Layout.{table_of}
use Rattle.packet_lookup.specs.Sought.{component_sought}
use Rattle.store_site.specs.Layout.{site_of}
use Rattle.packet_answer.proofs.Choices.{good, missing, bad}
use Rattle.packet_status.specs.StatusReply.{requested_of}
use Rattle.packet_status.proofs.Asked.{status_judged}
use Rattle.packet_status.proofs.status_request.Goals as goal

pub returns-in-Good : goal.returns-in-Good
returns-in-Good c ps =
    let t = table_of c.args.t.now in
    let ws = c.args.w.now in
    let f = c.read_status-f.result in
    let x = requested_of (site_of ps ws t) c.args.q f (component_sought t f.component) in
    status_judged t ps ws c.args.q (status_at Plain c.args.packet.now) c.read_status-f.ensures
    (good t ps ws c.args.q f.verdict x c.in-Good.is (c.requested.ensures ps))

pub returns-in-Missing : goal.returns-in-Missing
returns-in-Missing c ps =
    let t = table_of c.args.t.now in
    let ws = c.args.w.now in
    let f = c.read_status-f.result in
    let x = requested_of (site_of ps ws t) c.args.q f (component_sought t f.component) in
    status_judged t ps ws c.args.q (status_at Plain c.args.packet.now) c.read_status-f.ensures
    (missing t ps ws c.args.q f.verdict x c.in-Missing.is (c.not_ack.ensures ps t))

pub returns-in-Bad : goal.returns-in-Bad
returns-in-Bad c ps =
    let t = table_of c.args.t.now in
    let ws = c.args.w.now in
    let f = c.read_status-f.result in
    let x = requested_of (site_of ps ws t) c.args.q f (component_sought t f.component) in
    status_judged t ps ws c.args.q (status_at Plain c.args.packet.now) c.read_status-f.ensures
    (bad t ps ws c.args.q f.verdict x c.in-Bad.is (c.not_ack-in-Bad.ensures ps t))
