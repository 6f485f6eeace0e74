-- `store_site::parts::alarm` meets its contract.
-- Assumes nothing.
use Rattle.basis.proofs.Std.{◌∙◌, ◌+◌, ◌*◌, rules}
use Rattle.store_site.proofs.RowLaws.{alarm_get}
use Rattle.store_site.proofs.SiteLaws.{alarm_read}
use Rattle.store_site.proofs.parts.alarm.Goals as goal

pub returns : goal.returns
returns c =
    λ ps t. alarm_get c.args.w.now (561 + 2 * c.args.k) c.quarter.ensures c.quarter-2.ensures c.quarter-3.ensures c.quarter-4.ensures ∙ alarm_read ps c.args.w.now t c.args.k (search rules)
