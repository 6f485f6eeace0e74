-- `call_packet::is_watchdog` meets its contract.
-- Assumes nothing.
use Rattle.basis.proofs.Std.{ℕ, ap, eqb}
use Rattle.call_packet.proofs.is_watchdog.Goals as goal

pub returns : goal.returns
returns c = ap (λ (n : ℕ). eqb n 2) c.kind_number.ensures
