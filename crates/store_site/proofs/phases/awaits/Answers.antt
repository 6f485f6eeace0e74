-- `store_site::phases::awaits` meets its contract.
-- Assumes nothing.
use Rattle.awaited.specs.Awaited.{find_of, is_awaited}
use Rattle.link.specs.declared.Link.{Link}
use Rattle.store_link.specs.Rows.{link_in}
use Rattle.store_site.proofs.HeadLaws.{link_says}
use Rattle.basis.proofs.Std.{rules}
use Rattle.store_site.proofs.phases.awaits.Goals as goal

pub returns : goal.returns
unfolding link_in
returns c = λ ps t. link_says (λ (k : Link). is_awaited (find_of k.awaited c.args.id)) ps c.args.w.now t c.args.l (search rules) c.awaits_at.ensures
