-- `store_site::items::status` meets its contract.
-- Assumes nothing.
use Rattle.basis.proofs.Std.{sym, ◌∙◌}
use Rattle.store_site.proofs.PastLaws.{status_past}
use Rattle.store_site.proofs.items.status.Goals as goal

pub returns : goal.returns
returns c = λ ps t. c.unknown.ensures ∙ sym (status_past ps c.args.w.now t c.args.k c.if-k-lt32.false)
