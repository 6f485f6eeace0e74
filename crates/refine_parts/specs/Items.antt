-- When the alarms, statuses, aggregated value and subscriptions of a site are those of a machine: a proof's device, nothing here need be
-- believed.
-- Assumes nothing.
use Rattle.std.specs.Prelude.{ℕ, ◌+◌, ◌*◌, ◌≤◌, ◌<◌, ◌≡◌, List, map, ℤ, length, get_or}
use Rattle.std.proofs.Math.Option.{Option, some, none}
use Rattle.basis.specs.Pick.{bit}
use Rattle.basis.specs.Lists.{count, Among}
use Rattle.number.specs.Signed.{Signed32, word_of}
use Rattle.link.specs.declared.Link.{Link}
use Rattle.link.specs.Fields.{closed_link}
use Rattle.link.specs.Phase.{phase_of, is_up as up_in}
use Rattle.alarm.specs.declared.Alarm.{Alarm as AlarmWord}
use Rattle.status.specs.declared.Status.{Status}
use Rattle.status.specs.Status.{unknown, holding}
use Rattle.subscription.specs.declared.Subscription.{Subscription as Slot}
use Rattle.subscription.specs.Subscription.{none as no_subscription, subscribed}
use Rattle.site.specs.declared.Site.{Site}
use Rattle.site.specs.Parts.{alarm_at as alarm_in, status_at, subscription_at}
use Rattle.site.specs.Call.{Plan}
use Rattle.machine.specs.Words.{first_that}
use Rattle.machine.specs.State.{event_number, Alarm, Subscription, Issued, Machine, life_at, alarm_at, value_at, Effect}
use Rattle.machine.specs.Life.{is_up}
use Rattle.machine.specs.Items.{is_of}
use Rattle.demand_held.proofs.Lists.{Each}
use Rattle.refine_parts.specs.Record.{unnumbered, IsTold}
use Rattle.refine_parts.specs.Setup.{SameSetup}

abbrev pub alarm_for : Alarm → AlarmWord
alarm_for a =
    record {
      time = a.time;
      event = event_number a.event;
      acknowledged = bit a.acknowledged;
      active = bit a.active;
      suspended = bit a.suspended;
    }

abbrev pub status_for : Option ℤ → Status
status_for none = unknown
status_for (some v) = holding (word_of v)

abbrev pub slot_for : Option Subscription → Slot
slot_for none = no_subscription
slot_for (some x) = subscribed x.interval x.on_change x.since

-- a subscription of a configured link to a status of the table
pub record Within (m : Machine) (x : Subscription) : Type 0 where
  pub link : x.link < m.setup.links
  pub status : x.status < length m.statuses

-- the site has places for more items than are configured
pub record SameItems (s : Site) (m : Machine) : Type 0 where
  pub setup : SameSetup s m.setup
  pub alarms : (i : ℕ) → i < length m.alarms → alarm_in s i ≡ alarm_for (alarm_at m i)
  pub alarm_count : length m.alarms ≡ length m.setup.table.alarms
  pub alarm_places : length s.alarms ≡ 32
  pub statuses : (i : ℕ) → i < length m.statuses → status_at s i ≡ status_for (value_at m i)
  pub values : (i : ℕ) (v : ℤ) → value_at m i ≡ some v → Signed32 v
  pub status_count : length m.statuses ≡ length m.setup.table.statuses
  pub status_places : length s.statuses ≡ 32
  pub aggregated : s.aggregated ≡ record { time = m.aggregated_time; value = m.aggregated }
  pub byte : m.aggregated < 256
  -- "A link has one subscription per status": place l * 32 + i is that of link l to status i
  pub subscriptions : (l i : ℕ) → l < 4 → i < 32 → subscription_at s (l * 32 + i) ≡ slot_for (first_that (is_of l i) m.subscriptions)
  pub one_each : (l i : ℕ) → count (is_of l i) m.subscriptions ≤ 1
  pub within : (x : Subscription) → Among x m.subscriptions → Within m x
  pub subscription_places : length s.subscriptions ≡ 128

-- each link is Up in both or in neither: what a status' record says of its link
abbrev pub UpIn : List Link → Machine → Type 0
UpIn ns m = (l : ℕ) → up_in (phase_of (get_or ns l closed_link)) ≡ is_up (life_at m l)

abbrev pub SameUp : Site → Machine → Type 0
SameUp s m = UpIn s.links m

-- the records that a call issues are the machine's, and each entry tells its content
pub record SameIssued (p : Plan) (is : List Issued) : Type 0 where
  pub issued : p.issued ≡ map (unnumbered p.site.site) is
  pub told : Each (λ (i : Issued). IsTold i.content) is

pub record SameEffect (p : Plan) (e : Effect) : Type 0 where
  pub items : SameItems p.site e.leaves
  pub records : SameIssued p e.issues
