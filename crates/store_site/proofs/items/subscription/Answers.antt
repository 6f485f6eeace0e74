-- `store_site::items::subscription` meets its contract.
-- Assumes nothing.
use Rattle.basis.proofs.Std.{sym, ◌∙◌}
use Rattle.store_site.proofs.PastLaws.{subscription_past}
use Rattle.store_site.proofs.items.subscription.Goals as goal

pub returns : goal.returns
returns c = λ ps t. c.none.ensures ∙ sym (subscription_past ps c.args.w.now t c.args.k c.if-k-lt128.false)
