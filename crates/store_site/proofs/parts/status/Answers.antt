-- `store_site::parts::status` meets its contract.
-- Assumes nothing.
use Rattle.basis.proofs.Std.{◌∙◌, ◌+◌, rules}
use Rattle.store_site.proofs.RowLaws.{status_get}
use Rattle.store_site.proofs.SiteLaws.{status_read}
use Rattle.store_site.proofs.parts.status.Goals as goal

pub returns : goal.returns
returns c =
    λ ps t. status_get c.args.w.now (625 + c.args.k) c.upper.ensures c.lower.ensures ∙ status_read ps c.args.w.now t c.args.k (search rules)
