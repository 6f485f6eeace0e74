-- `store_site::items::up` meets its contract.
-- Assumes nothing.
use Rattle.basis.proofs.Std.{sym, ap, le-ltb}
use Rattle.link.specs.declared.Link.{Link}
use Rattle.link.specs.Phase.{phase_of, is_up}
use Rattle.store_site.proofs.PastLaws.{link_past}
use Rattle.store_site.proofs.items.up.Goals as goal

pub returns-else-l-lt4 : goal.returns-else-l-lt4
unfolding phase_of
returns-else-l-lt4 c = λ ps t. rw (le-ltb c.args.l 4 c.if-l-lt4.false) (ap (λ (k : Link). is_up (phase_of k)) (sym (link_past ps c.args.w.now t c.args.l c.if-l-lt4.false)))
