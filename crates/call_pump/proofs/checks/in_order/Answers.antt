use Rattle.basis.proofs.Std.{refl}
use Rattle.call_pump.proofs.checks.in_order.Goals as goal

pub returns : goal.returns
returns c = rw (c.unless-2.ensures, c.unless-due.ensures, c.unless.ensures, c.unless-fresh.ensures, c.nothing.ensures) refl
