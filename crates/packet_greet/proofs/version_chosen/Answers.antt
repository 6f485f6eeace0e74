-- `packet_greet::version_chosen` meets its contract.
-- Assumes nothing.
use Rattle.answer.specs.Given.Hint.{none}
use Rattle.site.specs.declared.Site.{Site}
use Rattle.store_site.proofs.TurnsLaws.{turns_then, turns_moves}
use Rattle.packet_answer.proofs.Ends.{accepts}
use Rattle.packet_greet.specs.Version.{accepted as accepted_of}
use Rattle.packet_greet.proofs.version_chosen.Goals as goal

pub returns : goal.returns
returns c =
    let done = c.done.ensures in
    λ ps t. accepts t c.args.q (λ (s : Site). accepted_of s c.args.q.link c.args.v) none c.ack-end.ensures done.0 (turns_moves ps (turns_then c.accepted.ensures done.1))
