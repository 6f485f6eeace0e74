-- `store_site::phases::beat` meets its contract.
-- Assumes nothing.
use Rattle.store_site.proofs.HeadLaws.{link_says}
use Rattle.link.specs.declared.Link.{Link}
use Rattle.store_link.specs.Rows.{link_in}
use Rattle.basis.proofs.Std.{refl, rules}
use Rattle.store_site.proofs.phases.beat.Goals as goal

pub returns : goal.returns
unfolding link_in
returns c = λ ps t. link_says (λ (k : Link). k.beat) ps c.args.w.now t c.args.l (search rules) (refl)
