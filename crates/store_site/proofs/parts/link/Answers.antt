-- `store_site::parts::link` meets its contract.
-- Assumes nothing.
use Rattle.basis.proofs.Std.{◌∙◌, rules}
use Rattle.store_site.proofs.SiteLaws.{link_read}
use Rattle.store_site.proofs.parts.link.Goals as goal

pub returns : goal.returns
returns c = λ ps t. c.link_at.ensures ∙ link_read ps c.args.w.now t c.args.l (search rules)
