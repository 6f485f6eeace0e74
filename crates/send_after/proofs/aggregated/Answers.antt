-- `send_after::aggregated` meets its contract.
-- Assumes nothing.
use Rattle.basis.proofs.Std.{refl}
use Rattle.store_site.proofs.TurnsLaws.{turns_as}
use Rattle.send_after.proofs.aggregated.Goals as goal

pub returns : goal.returns
returns c = turns_as c.put_link.ensures (λ ps t. rw (c.aggregated_passed.ensures, c.other_out-next.ensures, c.link-k.ensures ps t) refl)
