-- What they ask of statuses comes to what it comes to in the machine. proofs/ proves it.
-- Assumes nothing.
use Rattle.std.specs.Prelude.{true, false}
use Rattle.read_lists.specs.declared.Asking.TheVariants.{Plain}
use Rattle.read_lists.specs.Status.{status_at}
use Rattle.packet_status.specs.StatusReply.{status_taken}
use Rattle.packet_subscribe.specs.Subscribing.{asking_on, subscribing_taken}
use Rattle.site.specs.Site.{link_at}
use Rattle.refine_packet.specs.Taken.{SameAsked, SameRequested}
use Rattle.refine_packet.specs.Ordered.{IsUp}

abbrev pub SameStatusRequest : Type 0
SameStatusRequest = SameRequested "StatusRequest" IsUp (λ s q p. status_taken s q (status_at Plain p))

abbrev pub SameStatusSubscribe : Type 0
SameStatusSubscribe = SameAsked "StatusSubscribe" IsUp (λ s q p. subscribing_taken true s q (status_at (asking_on (link_at s q.link)) p))

abbrev pub SameStatusUnsubscribe : Type 0
SameStatusUnsubscribe = SameAsked "StatusUnsubscribe" IsUp (λ s q p. subscribing_taken false s q (status_at Plain p))

pub record SameStatuses : Type 0 where
  pub status_request : SameStatusRequest
  pub status_subscribe : SameStatusSubscribe
  pub status_unsubscribe : SameStatusUnsubscribe
