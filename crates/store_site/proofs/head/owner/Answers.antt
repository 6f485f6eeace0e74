-- `store_site::head::owner` meets its contract.
-- Assumes nothing.
use Rattle.store_site.proofs.HeadLaws.{owner_first, owner_second, owner_none}
use Rattle.store_site.proofs.head.owner.Goals as goal

pub returns-then-top-eq0 : goal.returns-then-top-eq0
returns-then-top-eq0 c = λ ps t. owner_first ps c.args.w.now t c.args.l c.top.ensures c.if-l-lt4.true c.if-top-eq0.true

pub returns-then-l-lt4 : goal.returns-then-l-lt4
returns-then-l-lt4 c = λ ps t. owner_second ps c.args.w.now t c.args.l c.top.ensures c.if-l-lt4.true c.if-top-eq0.false

pub returns : goal.returns
returns c = λ ps t. owner_none ps c.args.w.now t c.args.l c.if-l-lt4.false
