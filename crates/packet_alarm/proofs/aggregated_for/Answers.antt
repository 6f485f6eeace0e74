use Rattle.basis.proofs.Std.{sym, ◌∙◌}
use Rattle.store_table.specs.Layout.{table_of}
use Rattle.store_site.specs.Layout.{site_of}
use Rattle.packet_lookup.specs.Sought.{component_sought}
use Rattle.send_message.specs.Sending.{aggregated_message}
use Rattle.packet_answer.specs.Taken.{not_acked, replied, unless_busy, unknown_component}
use Rattle.packet_answer.proofs.Choices.{picked_first, picked_second, not_acked_lem}
use Rattle.packet_alarm.specs.Orders.{is_zero}
use Rattle.packet_alarm.proofs.aggregated_for.Goals as goal

pub returns-then-carries : goal.returns-then-carries
returns-then-carries c ps =
    let t = table_of c.args.t.now in
    let ws = c.args.w.now in
    picked_first t ps ws c.args.q (is_zero (component_sought t c.args.component))
    (unless_busy (site_of ps ws t) c.args.q (replied (site_of ps ws t) c.args.q (aggregated_message (site_of ps ws t) c.args.q.identity.bytes)))
    (not_acked (site_of ps ws t) c.args.q unknown_component) (sym c.carries.ensures ∙ c.if-carries.true) (c.reply_aggregated.ensures ps)

pub returns : goal.returns
returns c ps =
    let t = table_of c.args.t.now in
    let ws = c.args.w.now in
    picked_second t ps ws c.args.q (is_zero (component_sought t c.args.component))
    (unless_busy (site_of ps ws t) c.args.q (replied (site_of ps ws t) c.args.q (aggregated_message (site_of ps ws t) c.args.q.identity.bytes)))
    (not_acked (site_of ps ws t) c.args.q unknown_component) (sym c.carries.ensures ∙ c.if-carries.false) (not_acked_lem t ps ws c.args.q unknown_component (c.not_ack.ensures ps t))
