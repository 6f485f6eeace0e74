use Rattle.basis.proofs.Std.{refl}
use Rattle.call_pump.proofs.checks.unless.Goals as goal

pub returns-then-refuses : goal.returns-then-refuses
returns-then-refuses c = rw c.if-refuses.true refl
