-- `call_tick::intervals::renew` meets its contract.
-- Assumes nothing.
use Rattle.basis.proofs.Std.{refl}
use Rattle.store_site.proofs.TurnsLaws.{turns_as}
use Rattle.call_tick.proofs.intervals.renew.Goals as goal

pub returns : goal.returns
returns c = turns_as c.put_subscription.ensures (λ ps t. rw (c.on_tick-t.ensures, c.subscription-x.ensures ps t) refl)
