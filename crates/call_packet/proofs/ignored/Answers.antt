-- `call_packet::ignored` meets its contract.
-- Assumes nothing.
use Rattle.basis.proofs.Std.{refl}
use Rattle.call_packet.proofs.ignored.Goals as goal

pub returns-in-Ignored : goal.returns-in-Ignored
returns-in-Ignored c = λ ps t. rw c.in-Ignored.is refl

pub returns-in-Acked : goal.returns-in-Acked
returns-in-Acked c = λ ps t. rw c.in-Acked.is (c.unawaited.ensures ps t)

pub returns-in-NotAcked : goal.returns-in-NotAcked
returns-in-NotAcked c = λ ps t. rw c.in-NotAcked.is (c.unawaited-in-NotAcked.ensures ps t)

pub returns-in-Asked : goal.returns-in-Asked
returns-in-Asked c = λ ps t. rw c.in-Asked.is (c.early.ensures ps t)
