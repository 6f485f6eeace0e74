-- What is done to the items of a site, and of a machine: they stay the same, and the records issued are the same.
-- Assumes nothing.
use Rattle.std.specs.Prelude.{ℕ, ◌+◌, ◌*◌, ◌<◌, Bool, List, [], ◌∷◌, ◌++◌, map, ℤ, length}
use Rattle.number.specs.Signed.{Signed32}
use Rattle.alarm.specs.declared.Order.TheVariants.{Acknowledge, Suspend, Resume}
use Rattle.subscription.specs.Subscription.{none as no_subscription, subscribed}
use Rattle.link.specs.declared.Link.{Link}
use Rattle.site.specs.declared.Site.{Site}
use Rattle.site.specs.Call.{issues}
use Rattle.site.specs.Site.{with_subscriptions as with_slots}
use Rattle.site.specs.Parts.{with_subscription}
use Rattle.packet_lookup.specs.declared.Sought.TheVariants.{Is}
use Rattle.packet_answer.specs.declared.Question.{Question}
use Rattle.packet_alarm.specs.Orders.{change_taken}
use Rattle.packet_subscribe.specs.Subscribing.{record_of}
use Rattle.call_input.specs.Inputs.{alarm_plan, status_plan, aggregated_plan}
use Rattle.call_tick.specs.Intervals.{renewed, records_of}
use Rattle.machine.specs.State.{Machine, with_subscriptions, alarm_at}
use Rattle.machine.specs.Items.{with_input, acknowledged_at, suspended_at, resumed_at, happens, update, without, becomes, aggregates, intervals}
use Rattle.refine_parts.specs.Items.{SameItems, UpIn, SameUp, SameIssued, SameEffect}

module _ (s : Site) (m : Machine) where
  pub record SameInputs : Type 0 where
    pub alarm : (i : ℕ) (active : Bool) (t : ℕ) → i < length m.alarms
        → SameEffect (alarm_plan s i active t) (happens m i (with_input active t (alarm_at m i)))
    pub status : (i : ℕ) (v : ℤ) (t : ℕ) → i < length m.statuses → Signed32 v → SameUp s m → SameEffect (status_plan s i v t) (becomes m i v t)
    pub aggregated : (v t : ℕ) → v < 256 → SameEffect (aggregated_plan s v t) (aggregates m v t)

  -- of alarm i, as it is asked
  pub record SameOrders (i : ℕ) (q : Question) : Type 0 where
    pub acknowledge : SameEffect (change_taken s q i Acknowledge).plan (happens m i (acknowledged_at q.time (alarm_at m i)))
    pub suspend : SameEffect (change_taken s q i Suspend).plan (happens m i (suspended_at q.time (alarm_at m i)))
    pub resume : SameEffect (change_taken s q i Resume).plan (happens m i (resumed_at q.time (alarm_at m i)))

  -- of link l to status i
  pub record SameSubscribing (l i : ℕ) : Type 0 where
    pub subscribe : (interval : ℕ) (on_change : Bool) (t : ℕ)
        → SameItems (with_subscription s (l * 32 + i) (subscribed interval on_change t))
        (with_subscriptions (without l i m.subscriptions ++ (record { link = l; status = i; interval = interval; on_change = on_change; since = t } ∷ [])) m)
    -- "A subscription issues a record at once."
    pub at_once : (t : ℕ) → SameUp s m → SameIssued (issues s (record_of s l t (Is i))) (update m t l i ∷ [])
    pub end : SameItems (with_subscription s (l * 32 + i) no_subscription) (with_subscriptions (without l i m.subscriptions) m)

  pub record SameItemActs : Type 0 where
    pub inputs : SameInputs
    pub orders : (i : ℕ) (q : Question) → i < length m.alarms → SameOrders i q
    pub subscribing : (l i : ℕ) → l < m.setup.links → i < length m.statuses → SameSubscribing l i
    -- a tick, but for the links that it closes: as it leaves them they are Up or not, and m is the machine that has closed them
    pub tick : (t : ℕ) (left : List Link) → UpIn left m
        → SameEffect (issues (with_slots s (map (renewed t) s.subscriptions)) (records_of s.site s.subscriptions s.statuses left t)) (intervals t m)

pub record ItemActs : Type 0 where
  pub acts : (s : Site) (m : Machine) → SameItems s m → SameItemActs s m
