-- `store_site::phases::full` meets its contract.
-- Assumes nothing.
use Rattle.link.specs.Steps.{full_of}
use Rattle.link.specs.declared.Link.{Link}
use Rattle.store_link.specs.Rows.{link_in}
use Rattle.store_site.proofs.HeadLaws.{link_says}
use Rattle.basis.proofs.Std.{rules}
use Rattle.store_site.proofs.phases.full.Goals as goal

pub returns : goal.returns
unfolding link_in full_of
returns c = λ ps t. link_says (λ (k : Link). full_of k) ps c.args.w.now t c.args.l (search rules) c.full_at.ensures
