use Rattle.basis.proofs.Std.{tests}
use Rattle.read_head.proofs.included_for.Goals as goal

pub returns-then-i-eq-STATUS_REQUEST_ACK_INCLUDED : goal.returns-then-i-eq-STATUS_REQUEST_ACK_INCLUDED
returns-then-i-eq-STATUS_REQUEST_ACK_INCLUDED c = search tests

pub returns : goal.returns
returns c = search tests
