-- `store_site::head::bad_time` meets its contract.
-- Assumes nothing.
use Rattle.store_site.proofs.HeadLaws.{time_early, time_late}
use Rattle.store_site.proofs.head.bad_time.Goals as goal

pub returns-then-time-w : goal.returns-then-time-w
returns-then-time-w c = λ ps t. time_early ps c.args.w.now t c.args.time c.if-time-w.true

pub returns : goal.returns
returns c = λ ps t. time_late ps c.args.w.now t c.args.time c.if-time-w.false
