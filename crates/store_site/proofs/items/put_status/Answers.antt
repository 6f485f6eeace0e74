-- `store_site::items::put_status` meets its contract.
-- Assumes nothing.
use Rattle.store_site.proofs.PastLaws.{no_status_put}
use Rattle.store_site.proofs.TurnsLaws.{turns_none}
use Rattle.store_site.proofs.items.put_status.Goals as goal

pub returns : goal.returns
returns c = turns_none _ (λ ps t. no_status_put ps c.args.w.now t c.args.k c.args.x c.if-k-lt32.false)
