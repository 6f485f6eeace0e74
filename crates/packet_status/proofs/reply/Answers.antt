use Rattle.basis.proofs.Std.{[], refl, sym, ◌∙◌}
use Rattle.label.specs.Label.{text_of}
use Rattle.write_message.specs.declared.Told.TheVariants.{Response}
use Rattle.store_table.specs.Layout.{table_of}
use Rattle.store_site.specs.Layout.{site_of}
use Rattle.packet_answer.specs.Ending.{response_of}
use Rattle.packet_answer.proofs.Choices.{is_busy, is_awaited_lem, is_sent, in_one, in_two}
use Rattle.packet_status.specs.StatusReply.{told}
use Rattle.packet_status.proofs.reply.Goals as goal

pub returns-then-q : goal.returns-then-q
returns-then-q c ps =
    let t = table_of c.args.t.now in
    let ws = c.args.w.now in
    let done = c.respond_done.ensures in
    in_one t ps ws c.args.q Response (text_of c.args.f.component) (told (site_of ps ws t) c.args.component c.args.f) [] c.if-q.true (c.write_response-end.ensures ps) done.0 done.1

pub returns-then-is_busy : goal.returns-then-is_busy
returns-then-is_busy c ps =
    let t = table_of c.args.t.now in
    let ws = c.args.w.now in
    let entries = told (site_of ps ws t) c.args.component c.args.f in
    in_two t ps ws c.args.q Response (text_of c.args.f.component) entries [] c.if-q.false
    (is_busy t ps ws c.args.q (response_of c.args.q Response (text_of c.args.f.component) entries) (sym (c.is_busy.ensures ps t) ∙ c.if-is_busy.true) (c.not_ack.ensures ps t))

pub returns-then-is_awaited : goal.returns-then-is_awaited
returns-then-is_awaited c ps =
    let t = table_of c.args.t.now in
    let ws = c.args.w.now in
    let entries = told (site_of ps ws t) c.args.component c.args.f in
    in_two t ps ws c.args.q Response (text_of c.args.f.component) entries [] c.if-q.false
    (is_awaited_lem t ps ws c.args.q (response_of c.args.q Response (text_of c.args.f.component) entries) (sym (c.is_busy.ensures ps t) ∙ c.if-is_busy.false) (sym (c.is_awaited.ensures ps t) ∙ c.if-is_awaited.true) refl)

pub returns : goal.returns
returns c ps =
    let t = table_of c.args.t.now in
    let ws = c.args.w.now in
    let entries = told (site_of ps ws t) c.args.component c.args.f in
    let done = c.reply_done.ensures in
    in_two t ps ws c.args.q Response (text_of c.args.f.component) entries [] c.if-q.false
    (is_sent t ps ws c.args.q (response_of c.args.q Response (text_of c.args.f.component) entries) (sym (c.is_busy.ensures ps t) ∙ c.if-is_busy.false) (sym (c.is_awaited.ensures ps t) ∙ c.if-is_awaited.false) (c.answer_and_response-end.ensures ps) done.0 done.1)
