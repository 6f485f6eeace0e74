use Rattle.answer.specs.Given.Hint.{none}
use Rattle.site.specs.declared.Site.{Site}
use Rattle.store_site.proofs.TurnsLaws.{turns_moves}
use Rattle.packet_answer.proofs.Ends.{accepts}
use Rattle.packet_alarm.proofs.accept.Goals as goal

pub returns : goal.returns
returns c =
    λ ps t. accepts t c.args.q (λ (s : Site). s) none c.ack-end.ensures c.done.ensures.0 (turns_moves ps c.done.ensures.1)
