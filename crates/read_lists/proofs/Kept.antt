-- The claims about packets with lists are kept.
-- Assumes nothing.
use Rattle.basis.proofs.Std.{◌≡◌, ap, ◌∙◌, List, ℕ, arith}
use Rattle.json_value.specs.Grammar.{Json}
use Rattle.json_value.specs.Reader.{skip_ws}
use Rattle.json_value.proofs.Complete as Complete
use Rattle.json_packet.specs.Packet.{Packet, packet}
use Rattle.read_head.proofs.Kept.{words}
use Rattle.read_lists.specs.declared.Asking.{Asking}
use Rattle.read_lists.specs.Items.{list_in, list_at}
use Rattle.read_lists.specs.Version.{version_in, version_at}
use Rattle.read_lists.specs.Status.{status_in, status_at}
use Rattle.read_lists.specs.Claims.{Claims}
use Rattle.read_lists.proofs.Listed.{lists_agree}
use Rattle.read_lists.proofs.Seconds.{seconds, only_seconds, no_seconds, only_missing, too_long, subscribed, older}
use Rattle.read_lists.proofs.Counts.{statuses, versions, sites}

-- the lists of a packet are those of its meaning
pub lists : {s : List ℕ} {j : Json} → Packet s j → list_at (skip_ws s) ≡ list_in j
lists (packet {s} {u} w v x n) = ap list_at (Complete.skip w (Complete.solid u (Complete.begins v))) ∙ lists_agree (omega arith) v

version : {s : List ℕ} {j : Json} → Packet s j → version_at s ≡ version_in j
unfolding version_at version_in
version p = rw (words p, lists p)

status : (asking : Asking) {s : List ℕ} {j : Json} → Packet s j → status_at asking s ≡ status_in asking j
unfolding status_at status_in
status asking p = rw (words p, lists p)

pub kept : Claims
kept =
    record {
      version = version;
      status = status;
      seconds = seconds;
      only_seconds = only_seconds;
      no_seconds = no_seconds;
      only_missing = only_missing;
      too_long = too_long;
      subscribed = subscribed;
      older = older;
      statuses = statuses;
      versions = versions;
      sites = sites;
    }
