-- `store_site::head::no_link` meets its contract.
-- Assumes nothing.
use Rattle.basis.proofs.Std.{◌∙◌}
use Rattle.store_site.proofs.HeadLaws.{no_link_low}
use Rattle.store_site.proofs.head.no_link.Goals as goal

pub returns-else-link-ge4 : goal.returns-else-link-ge4
returns-else-link-ge4 c = λ ps t. no_link_low ps c.args.w.now t c.args.link (c.from.ensures ∙ c.quarter-count.ensures) c.if-link-ge4.false
