-- `call_packet::is_version` meets its contract.
-- Assumes nothing.
use Rattle.basis.proofs.Std.{ℕ, ap, eqb}
use Rattle.call_packet.proofs.is_version.Goals as goal

pub returns : goal.returns
returns c = ap (λ (n : ℕ). eqb n 1) c.kind_number.ensures
