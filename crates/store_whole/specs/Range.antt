-- A site whose narrow fields fit their bits and whose lists have their lengths: what a site by value always is.
-- Assumes nothing.
use Rattle.std.specs.Prelude.{ℕ, ◌<◌, ◌≡◌, length, get_or}
use Rattle.awaited.specs.declared.Slot.{Slot}
use Rattle.awaited.specs.Slot.{free_slot}
use Rattle.link.specs.declared.Link.{Link}
use Rattle.pool.specs.declared.Place.{Place}
use Rattle.pool.specs.declared.Pool.{Pool}
use Rattle.pool.specs.Places.{no_place}
use Rattle.subscription.specs.declared.Subscription.{Subscription}
use Rattle.alarm.specs.declared.Alarm.{Alarm}
use Rattle.status.specs.declared.Status.{Status}
use Rattle.site.specs.declared.Site.{Site}
use Rattle.site.specs.Site.{link_at}
use Rattle.site.specs.Parts.{subscription_at, alarm_at, status_at}

pub record SlotFits (x : Slot) : Type 0 where
  pub sequence : x.sequence < 4294967296
  pub purpose : x.purpose < 4294967296
  pub sixteen : length x.id.bytes ≡ 16
  pub byte : (i : ℕ) → get_or x.id.bytes i 0 < 256

pub record LinkFits (k : Link) : Type 0 where
  pub alarm : k.alarm < 4294967296
  pub major : k.major < 4294967296
  pub minor : k.minor < 4294967296
  pub patch : k.patch < 4294967296
  pub sixteen : length k.awaited.slots ≡ 16
  pub slot : (i : ℕ) → i < 16 → SlotFits (get_or k.awaited.slots i free_slot)

pub record PlaceFits (x : Place) : Type 0 where
  pub value : x.entry.value < 4294967296
  pub sequence : x.entry.sequence < 4294967296
  pub link : x.entry.link < 65536
  pub kind : x.entry.kind < 65536
  pub item : x.entry.item < 65536
  pub flags : x.entry.flags < 65536

pub record SubscriptionFits (x : Subscription) : Type 0 where
  pub seconds : x.seconds < 4294967296
  pub state : x.state < 4294967296

pub record AlarmFits (x : Alarm) : Type 0 where
  pub event : x.event < 65536
  pub acknowledged : x.acknowledged < 65536
  pub active : x.active < 65536
  pub suspended : x.suspended < 65536

pub record StatusFits (x : Status) : Type 0 where
  pub value : x.value < 4294967296
  pub known : x.known < 4294967296

pub record PoolInRange (p : Pool) : Type 0 where
  pub lost : length p.lost ≡ 8
  pub places : length p.places ≡ 128
  pub place : (k : ℕ) → k < 128 → PlaceFits (get_or p.places k no_place)

-- all but its pool
pub record InRange (s : Site) : Type 0 where
  pub site : s.site < 2
  pub period : s.period < 2147483648
  pub linkcount : s.linkcount < 65536
  pub primary : s.primary < 65536
  pub links : length s.links ≡ 4
  pub subscriptions : length s.subscriptions ≡ 128
  pub alarms : length s.alarms ≡ 32
  pub statuses : length s.statuses ≡ 32
  pub link : (k : ℕ) → k < 4 → LinkFits (link_at s k)
  pub subscription : (k : ℕ) → k < 128 → SubscriptionFits (subscription_at s k)
  pub alarm : (k : ℕ) → k < 32 → AlarmFits (alarm_at s k)
  pub status : (k : ℕ) → k < 32 → StatusFits (status_at s k)
