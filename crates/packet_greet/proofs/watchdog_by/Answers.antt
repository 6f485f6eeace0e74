-- `packet_greet::watchdog_by` meets its contract.
-- Assumes nothing.
use Rattle.packet_greet.proofs.Beats.{beats}
use Rattle.packet_greet.proofs.watchdog_by.Goals as goal

pub returns-in-Good : goal.returns-in-Good
returns-in-Good c =
    λ ps t. beats t c.args.q c.args.f c.in-Good.is (c.beat.ensures ps t)

pub returns-in-Missing : goal.returns-in-Missing
returns-in-Missing c = λ ps t. rw c.in-Missing.is (c.not_ack.ensures ps t)

pub returns-in-Bad : goal.returns-in-Bad
returns-in-Bad c = λ ps t. rw c.in-Bad.is (c.not_ack-in-Bad.ensures ps t)
