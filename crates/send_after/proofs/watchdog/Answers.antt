-- `send_after::watchdog` meets its contract.
-- Assumes nothing.
use Rattle.basis.proofs.Std.{refl}
use Rattle.store_site.proofs.TurnsLaws.{turns_as}
use Rattle.send_after.proofs.watchdog.Goals as goal

pub returns : goal.returns
returns c = turns_as c.put_link.ensures (λ ps t. rw (c.watchdog_out.ensures, c.link-k.ensures ps t) refl)
