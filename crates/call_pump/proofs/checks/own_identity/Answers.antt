use Rattle.identity.specs.declared.Identity.{Identity}
use Rattle.basis.proofs.Std.{ℕ, List, ap}
use Rattle.call_pump.proofs.checks.own_identity.Goals as goal

pub returns : goal.returns
returns c = ap identity c.version4.ensures
  where
    identity : List ℕ → Identity
    identity bs = record { bytes = bs }
