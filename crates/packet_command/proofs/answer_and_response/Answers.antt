use Rattle.basis.proofs.Std.{arith}
use Rattle.output.proofs.Laws.{most, stopped, lent}
use Rattle.label.specs.Label.{text_of}
use Rattle.write_message.specs.declared.Told.TheVariants.{Command as CommandResponse}
use Rattle.write_message.specs.Pieces.{pieces}
use Rattle.packet_answer.specs.Ending.{response_of}
use Rattle.packet_command.specs.Commanding.{told}
use Rattle.packet_command.proofs.answer_and_response.Goals as goal

pub returns-then-out-end : goal.returns-then-out-end
returns-then-out-end c =
    stopped (pieces (response_of c.args.q CommandResponse (text_of c.args.f.component) (told c.args.component c.args.f))) (omega arith) c.ack-end.ensures c.if-out-end.true

pub overflow_add-result : goal.overflow_add-result
overflow_add-result c =
    omega (arith, most c.write_response-more.ensures (omega arith))

pub returns : goal.returns
returns c =
    lent c.ack-end.ensures c.if-out-end.false c.write_response-more.ensures
