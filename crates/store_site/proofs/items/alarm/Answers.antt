-- `store_site::items::alarm` meets its contract.
-- Assumes nothing.
use Rattle.basis.proofs.Std.{sym, ◌∙◌}
use Rattle.store_site.proofs.PastLaws.{alarm_past}
use Rattle.store_site.proofs.items.alarm.Goals as goal

pub returns : goal.returns
returns c = λ ps t. c.begin.ensures ∙ sym (alarm_past ps c.args.w.now t c.args.k c.if-k-lt32.false)
