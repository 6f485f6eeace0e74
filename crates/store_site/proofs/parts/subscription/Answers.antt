-- `store_site::parts::subscription` meets its contract.
-- Assumes nothing.
use Rattle.basis.proofs.Std.{◌∙◌, ◌+◌, ◌*◌, rules}
use Rattle.store_site.proofs.RowLaws.{subscription_get}
use Rattle.store_site.proofs.SiteLaws.{subscription_read}
use Rattle.store_site.proofs.parts.subscription.Goals as goal

pub returns : goal.returns
returns c =
    λ ps t. subscription_get c.args.w.now (305 + 2 * c.args.k) c.upper.ensures c.lower.ensures ∙ subscription_read ps c.args.w.now t c.args.k (search rules)
