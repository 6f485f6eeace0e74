-- `store_site::items::put_alarm` meets its contract.
-- Assumes nothing.
use Rattle.store_site.proofs.PastLaws.{no_alarm_put}
use Rattle.store_site.proofs.TurnsLaws.{turns_none}
use Rattle.store_site.proofs.items.put_alarm.Goals as goal

pub returns : goal.returns
returns c = turns_none _ (λ ps t. no_alarm_put ps c.args.w.now t c.args.k c.args.x c.if-k-lt32.false)
