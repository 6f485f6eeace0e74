use Rattle.basis.proofs.Std.{ℕ, refl, sym, ap, ◌∙◌}
use Rattle.label.specs.Label.{text_of}
use Rattle.write_message.specs.declared.Told.TheVariants.{Command as CommandResponse}
use Rattle.store_table.specs.Layout.{table_of}
use Rattle.answer.specs.declared.Answer.TheVariants.{Done}
use Rattle.packet_answer.specs.Ending.{handed, response_of}
use Rattle.packet_answer.proofs.Choices.{hand_busy, hand_awaited, hand_sent, in_one, in_two}
use Rattle.packet_command.specs.Commanding.{told, commands_of}
use Rattle.packet_command.proofs.reply.Goals as goal

pub returns-then-q : goal.returns-then-q
returns-then-q c =
    λ ps.
    let t = table_of c.args.t.now in
    let ws = c.args.w.now in
    let wrote = c.write_response-end in
    let done = c.respond_done.ensures in
    in_one t ps ws c.args.q CommandResponse (text_of c.args.f.component) (told c.args.component c.args.f) (commands_of t c.args.f c.args.component) c.if-q.true wrote.ensures (done.0 ∙ ap (λ (n : ℕ). Done (handed wrote.result n)) (c.handed.ensures t)) done.1

pub returns-then-is_busy : goal.returns-then-is_busy
returns-then-is_busy c =
    λ ps.
    let t = table_of c.args.t.now in
    let ws = c.args.w.now in
    in_two t ps ws c.args.q CommandResponse (text_of c.args.f.component) (told c.args.component c.args.f) (commands_of t c.args.f c.args.component) c.if-q.false
    (hand_busy t ps ws c.args.q (response_of c.args.q CommandResponse (text_of c.args.f.component) (told c.args.component c.args.f)) (commands_of t c.args.f c.args.component) (sym (c.is_busy.ensures ps t) ∙ c.if-is_busy.true) (c.not_ack.ensures ps t))

pub returns-then-is_awaited : goal.returns-then-is_awaited
returns-then-is_awaited c =
    λ ps.
    let t = table_of c.args.t.now in
    let ws = c.args.w.now in
    in_two t ps ws c.args.q CommandResponse (text_of c.args.f.component) (told c.args.component c.args.f) (commands_of t c.args.f c.args.component) c.if-q.false
    (hand_awaited t ps ws c.args.q (response_of c.args.q CommandResponse (text_of c.args.f.component) (told c.args.component c.args.f)) (commands_of t c.args.f c.args.component) (sym (c.is_busy.ensures ps t) ∙ c.if-is_busy.false) (sym (c.is_awaited.ensures ps t) ∙ c.if-is_awaited.true) refl)

pub returns : goal.returns
returns c =
    λ ps.
    let t = table_of c.args.t.now in
    let ws = c.args.w.now in
    let wrote = c.answer_and_response-end in
    let done = c.hand_done.ensures in
    in_two t ps ws c.args.q CommandResponse (text_of c.args.f.component) (told c.args.component c.args.f) (commands_of t c.args.f c.args.component) c.if-q.false
    (hand_sent t ps ws c.args.q (response_of c.args.q CommandResponse (text_of c.args.f.component) (told c.args.component c.args.f)) (commands_of t c.args.f c.args.component) (sym (c.is_busy.ensures ps t) ∙ c.if-is_busy.false) (sym (c.is_awaited.ensures ps t) ∙ c.if-is_awaited.false) wrote.ensures (done.0 ∙ ap (λ (n : ℕ). Done (handed wrote.result n)) (c.handed-2.ensures t)) done.1)
