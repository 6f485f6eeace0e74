use Rattle.basis.proofs.Std.{refl, sym, ◌∙◌}
use Rattle.store_table.specs.Layout.{table_of}
use Rattle.store_site.specs.Layout.{site_of}
use Rattle.send_message.specs.Sending.{aggregated_message}
use Rattle.packet_answer.proofs.Choices.{is_busy, is_awaited_lem, is_sent}
use Rattle.packet_alarm.proofs.reply_aggregated.Goals as goal

pub returns-then-is_busy : goal.returns-then-is_busy
returns-then-is_busy c ps =
    let t = table_of c.args.t.now in
    let ws = c.args.w.now in
    is_busy t ps ws c.args.q (aggregated_message (site_of ps ws t) c.args.q.identity.bytes) (sym (c.is_busy.ensures ps t) ∙ c.if-is_busy.true) (c.not_ack.ensures ps t)

pub returns-then-is_awaited : goal.returns-then-is_awaited
returns-then-is_awaited c ps =
    let t = table_of c.args.t.now in
    let ws = c.args.w.now in
    is_awaited_lem t ps ws c.args.q (aggregated_message (site_of ps ws t) c.args.q.identity.bytes) (sym (c.is_busy.ensures ps t) ∙ c.if-is_busy.false) (sym (c.is_awaited.ensures ps t) ∙ c.if-is_awaited.true) refl

pub returns : goal.returns
returns c ps =
    let t = table_of c.args.t.now in
    let ws = c.args.w.now in
    is_sent t ps ws c.args.q (aggregated_message (site_of ps ws t) c.args.q.identity.bytes) (sym (c.is_busy.ensures ps t) ∙ c.if-is_busy.false) (sym (c.is_awaited.ensures ps t) ∙ c.if-is_awaited.false) (c.answer_and_aggregated-end.ensures ps) c.reply_done.ensures.0 c.reply_done.ensures.1
