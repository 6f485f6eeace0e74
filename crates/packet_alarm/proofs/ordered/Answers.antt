use Rattle.read_head.specs.declared.Order.{Order}
use Rattle.alarm.specs.declared.Order.TheVariants.{Acknowledge, Suspend, Resume}
use Rattle.store_table.specs.Layout.{table_of}
use Rattle.store_site.specs.Layout.{site_of}
use Rattle.packet_answer.proofs.Choices.{like}
use Rattle.packet_alarm.specs.Orders.{ordered}
use Rattle.packet_alarm.proofs.Changes.{taken_so}
use Rattle.packet_alarm.proofs.ordered.Goals as goal

pub returns-in-Request : goal.returns-in-Request
returns-in-Request c =
    let t = table_of c.args.t.now in
    let ps = c.args.p.now in
    let ws = c.args.w.now in
    like t ps ws c.args.q (λ (x : Order). ordered (site_of ps ws t) c.args.q c.args.k x) c.in-Request.is (c.request.ensures ps)

pub returns-in-Acknowledge : goal.returns-in-Acknowledge
returns-in-Acknowledge c =
    let t = table_of c.args.t.now in
    let ps = c.args.p.now in
    let ws = c.args.w.now in
    like t ps ws c.args.q (λ (x : Order). ordered (site_of ps ws t) c.args.q c.args.k x) c.in-Acknowledge.is
    (taken_so t ps ws c.args.q c.args.k Acknowledge (c.change.ensures t))

pub returns-in-Suspend : goal.returns-in-Suspend
returns-in-Suspend c =
    let t = table_of c.args.t.now in
    let ps = c.args.p.now in
    let ws = c.args.w.now in
    like t ps ws c.args.q (λ (x : Order). ordered (site_of ps ws t) c.args.q c.args.k x) c.in-Suspend.is
    (taken_so t ps ws c.args.q c.args.k Suspend (c.change-in-Suspend.ensures t))

pub returns-in-Resume : goal.returns-in-Resume
returns-in-Resume c =
    let t = table_of c.args.t.now in
    let ps = c.args.p.now in
    let ws = c.args.w.now in
    like t ps ws c.args.q (λ (x : Order). ordered (site_of ps ws t) c.args.q c.args.k x) c.in-Resume.is
    (taken_so t ps ws c.args.q c.args.k Resume (c.change-in-Resume.ensures t))
