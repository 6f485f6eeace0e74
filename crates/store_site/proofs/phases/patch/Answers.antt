-- `store_site::phases::patch` meets its contract.
-- Assumes nothing.
use Rattle.store_site.proofs.HeadLaws.{link_says}
use Rattle.link.specs.declared.Link.{Link}
use Rattle.store_link.specs.Rows.{link_in}
use Rattle.basis.proofs.Std.{rules}
use Rattle.store_site.proofs.phases.patch.Goals as goal

pub returns : goal.returns
unfolding link_in
returns c = λ ps t. link_says (λ (k : Link). k.patch) ps c.args.w.now t c.args.l (search rules) c.lower.ensures
