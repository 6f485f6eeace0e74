-- The three types of statuses.
-- Assumes nothing.
use Rattle.refine_packet.specs.Statuses.{SameStatuses}
use Rattle.refine_packet.proofs.Request.{same_request}
use Rattle.refine_packet.proofs.Subscribing.{same_subscribe, same_unsubscribe}

pub same_statuses : SameStatuses
same_statuses = record { status_request = same_request; status_subscribe = same_subscribe; status_unsubscribe = same_unsubscribe }
