-- `packet_answer::not_ack` meets its contract.
-- Assumes nothing.
use Rattle.store_site.proofs.TurnsLaws.{turns_moves}
use Rattle.packet_answer.proofs.Ends.{not_acks}
use Rattle.packet_answer.proofs.not_ack.Goals as goal

pub returns : goal.returns
returns c =
    let done = c.done.ensures in
    λ ps t. not_acks t c.args.q c.args.reason c.refusal-end.ensures done.0 (turns_moves ps done.1)
