-- Past the end of a list of the site: what stands for none, and no change.
-- Assumes nothing.
use Rattle.basis.proofs.Std.{ℕ, ◌+◌, ◌*◌, ◌≤◌, ◌≡◌, sym, ap, List, arith, length, get_or-eq_default, set_out}
use Rattle.link.specs.Fields.{closed_link}
use Rattle.subscription.specs.declared.Subscription.{Subscription}
use Rattle.subscription.specs.Subscription.{none}
use Rattle.alarm.specs.declared.Alarm.{Alarm}
use Rattle.alarm.specs.Alarm.{beginning}
use Rattle.status.specs.declared.Status.{Status}
use Rattle.status.specs.Status.{unknown}
use Rattle.table_whole.specs.declared.SiteTable.{SiteTable}
use Rattle.site.specs.Site.{with_subscriptions, with_alarms, with_statuses, link_at}
use Rattle.site.specs.Parts.{subscription_at, with_subscription, alarm_at, with_alarm, status_at, with_status}
use Rattle.store_words.proofs.Elements.{list_length}
use Rattle.store_link.specs.Rows.{link_in}
use Rattle.store_site.specs.Rows.{subscription_in, alarm_in, status_in}
use Rattle.store_site.specs.Layout.{links_in, subscriptions_in, alarms_in, statuses_in, site_of}

module _ (ps ws : List ℕ) (t : SiteTable) where
  pub links_length : length (site_of ps ws t).links ≡ 4
  unfolding site_of links_in
  links_length = list_length (λ (k : ℕ). link_in ws (5 + 75 * k)) 4

  pub subscriptions_length : length (site_of ps ws t).subscriptions ≡ 128
  unfolding site_of subscriptions_in
  subscriptions_length = list_length (λ (k : ℕ). subscription_in ws (305 + 2 * k)) 128

  pub alarms_length : length (site_of ps ws t).alarms ≡ 32
  unfolding site_of alarms_in
  alarms_length = list_length (λ (k : ℕ). alarm_in ws (561 + 2 * k)) 32

  pub statuses_length : length (site_of ps ws t).statuses ≡ 32
  unfolding site_of statuses_in
  statuses_length = list_length (λ (k : ℕ). status_in ws (625 + k)) 32

  pub link_past : (l : ℕ) → 4 ≤ l → link_at (site_of ps ws t) l ≡ closed_link
  link_past l h = get_or-eq_default (site_of ps ws t).links closed_link {n = l} (omega (arith, links_length))

  pub subscription_past : (k : ℕ) → 128 ≤ k → subscription_at (site_of ps ws t) k ≡ none
  subscription_past k h = get_or-eq_default (site_of ps ws t).subscriptions none {n = k} (omega (arith, subscriptions_length))

  pub alarm_past : (k : ℕ) → 32 ≤ k → alarm_at (site_of ps ws t) k ≡ beginning 0
  alarm_past k h = get_or-eq_default (site_of ps ws t).alarms (beginning 0) {n = k} (omega (arith, alarms_length))

  pub status_past : (k : ℕ) → 32 ≤ k → status_at (site_of ps ws t) k ≡ unknown
  status_past k h = get_or-eq_default (site_of ps ws t).statuses unknown {n = k} (omega (arith, statuses_length))

  pub no_subscription_put : (k : ℕ) (x : Subscription) → 128 ≤ k → site_of ps ws t ≡ with_subscription (site_of ps ws t) k x
  no_subscription_put k x h = ap (with_subscriptions (site_of ps ws t)) (sym (set_out (site_of ps ws t).subscriptions k x (omega (arith, subscriptions_length))))

  pub no_alarm_put : (k : ℕ) (x : Alarm) → 32 ≤ k → site_of ps ws t ≡ with_alarm (site_of ps ws t) k x
  no_alarm_put k x h = ap (with_alarms (site_of ps ws t)) (sym (set_out (site_of ps ws t).alarms k x (omega (arith, alarms_length))))

  pub no_status_put : (k : ℕ) (x : Status) → 32 ≤ k → site_of ps ws t ≡ with_status (site_of ps ws t) k x
  no_status_put k x h = ap (with_statuses (site_of ps ws t)) (sym (set_out (site_of ps ws t).statuses k x (omega (arith, statuses_length))))
