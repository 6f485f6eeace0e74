use Rattle.basis.proofs.Std.{[], arith}
use Rattle.output.proofs.Laws.{most, stopped, lent}
use Rattle.label.specs.Label.{text_of}
use Rattle.write_message.specs.declared.Told.TheVariants.{Response}
use Rattle.write_message.specs.Pieces.{pieces}
use Rattle.packet_answer.specs.Ending.{response_of}
use Rattle.store_table.specs.Layout.{table_of}
use Rattle.store_site.specs.Layout.{site_of}
use Rattle.packet_status.specs.StatusReply.{told}
use Rattle.packet_status.proofs.answer_and_response.Goals as goal

pub returns-then-out-end : goal.returns-then-out-end
returns-then-out-end c ps =
    stopped (pieces (response_of c.args.q Response (text_of c.args.f.component) (told (site_of ps c.args.w.now (table_of c.args.t.now)) c.args.component c.args.f))) (omega arith) c.ack-end.ensures c.if-out-end.true

pub overflow_add-result : goal.overflow_add-result
overflow_add-result c =
    omega (arith, most (c.write_response-more.ensures []) (omega arith))

pub returns : goal.returns
returns c ps =
    lent c.ack-end.ensures c.if-out-end.false (c.write_response-more.ensures ps)
