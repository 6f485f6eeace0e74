-- `packet_greet::settled` meets its contract.
-- Assumes nothing.
use Rattle.basis.proofs.Std.{refl}
use Rattle.packet_greet.proofs.settled.Goals as goal

pub returns-in-Nothing : goal.returns-in-Nothing
returns-in-Nothing c = rw c.in-Nothing.is (record { site = λ t. refl; plain = λ p. p })

pub returns-in-For : goal.returns-in-For
returns-in-For c = rw c.in-For.is c.settled_for.ensures
