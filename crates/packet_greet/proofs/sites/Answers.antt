-- `packet_greet::sites` meets its contract.
-- Assumes nothing.
use Rattle.basis.proofs.Std.{refl}
use Rattle.packet_greet.proofs.sites.Goals as goal

pub returns : goal.returns
returns c = rw c.none-list.ensures refl
