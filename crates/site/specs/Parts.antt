-- One element of a list of the site.
-- Assumes nothing.
use Rattle.std.specs.Prelude.{ℕ, get_or, set}
use Rattle.alarm.specs.declared.Alarm.{Alarm}
use Rattle.alarm.specs.Alarm.{beginning}
use Rattle.status.specs.declared.Status.{Status}
use Rattle.status.specs.Status.{unknown}
use Rattle.subscription.specs.declared.Subscription.{Subscription}
use Rattle.subscription.specs.Subscription.{none}
use Rattle.label.specs.declared.Label.{Label}
use Rattle.label.specs.Label.{no_label}
use Rattle.table_item.specs.declared.Item.{Item}
use Rattle.table_item.specs.Item.{no_item}
use Rattle.site.specs.declared.Site.{Site}
use Rattle.site.specs.Site.{with_alarms, with_statuses, with_subscriptions}

abbrev pub alarm_at : Site → ℕ → Alarm
alarm_at s k = get_or s.alarms k (beginning 0)

abbrev pub with_alarm : Site → ℕ → Alarm → Site
with_alarm s k x = with_alarms s (set s.alarms k x)

abbrev pub status_at : Site → ℕ → Status
status_at s k = get_or s.statuses k unknown

abbrev pub with_status : Site → ℕ → Status → Site
with_status s k x = with_statuses s (set s.statuses k x)

-- place l * 32 + k is the subscription of link l to status k
abbrev pub subscription_at : Site → ℕ → Subscription
subscription_at s i = get_or s.subscriptions i none

abbrev pub with_subscription : Site → ℕ → Subscription → Site
with_subscription s i x = with_subscriptions s (set s.subscriptions i x)

-- of the site table
abbrev pub component_at : Site → ℕ → Label
component_at s k = get_or s.table.components k no_label

abbrev pub alarm_row_at : Site → ℕ → Item
alarm_row_at s k = get_or s.table.alarms k no_item

abbrev pub status_row_at : Site → ℕ → Item
status_row_at s k = get_or s.table.statuses k no_item
