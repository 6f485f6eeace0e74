-- `call_packet::own_identity` meets its contract.
-- Assumes nothing.
use Rattle.basis.proofs.Std.{ℕ, List, ap}
use Rattle.identity.specs.declared.Identity.{Identity}
use Rattle.call_packet.proofs.own_identity.Goals as goal

pub returns : goal.returns
returns c = ap identity c.version4.ensures
  where
    identity : List ℕ → Identity
    identity bs = record { bytes = bs }
