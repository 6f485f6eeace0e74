-- `packet_answer::reply_done` meets its contract.
-- Assumes nothing.
use Rattle.basis.proofs.Std.{ap}
use Rattle.answer.specs.declared.Answer.TheVariants.{Done}
use Rattle.packet_answer.proofs.reply_done.Goals as goal

pub returns : goal.returns
returns c = (ap Done c.report.ensures, c.replied.ensures)
