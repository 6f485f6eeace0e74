-- `send_after::alarm` meets its contract.
-- Assumes nothing.
use Rattle.basis.proofs.Std.{refl}
use Rattle.store_site.proofs.TurnsLaws.{moves_as}
use Rattle.send_after.proofs.alarm.Goals as goal

pub returns : goal.returns
returns c =
    moves_as c.alarm_with.ensures (λ t. rw (c.first_pass-c.ensures t) refl)
