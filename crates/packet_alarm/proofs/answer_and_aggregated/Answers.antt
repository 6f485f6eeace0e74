use Rattle.basis.proofs.Std.{[], arith}
use Rattle.output.proofs.Laws.{most, stopped, lent}
use Rattle.write_message.specs.Pieces.{pieces}
use Rattle.store_table.specs.Layout.{table_of}
use Rattle.store_site.specs.Layout.{site_of}
use Rattle.send_message.specs.Sending.{aggregated_message}
use Rattle.packet_alarm.proofs.answer_and_aggregated.Goals as goal

pub returns-then-out-end : goal.returns-then-out-end
returns-then-out-end c ps =
    stopped (pieces (aggregated_message (site_of ps c.args.w.now (table_of c.args.t.now)) c.args.q.identity.bytes)) (omega arith) c.ack-end.ensures c.if-out-end.true

pub overflow_add-result : goal.overflow_add-result
overflow_add-result c =
    omega (arith, most (c.write_aggregated-more.ensures []) (omega arith))

pub returns : goal.returns
returns c ps =
    lent c.ack-end.ensures c.if-out-end.false (c.write_aggregated-more.ensures ps)
