-- The host's three inputs: an alarm's, a status' value, the aggregated value. What refuses each, and what it lays down.
-- Assumes nothing.
use Rattle.std.specs.Prelude.{ℕ, ◌+◌, ◌*◌, Bool, List, leb, ℤ}
use Rattle.basis.specs.Pick.{both}
use Rattle.answer.specs.declared.Refusal.{Refusal}
use Rattle.answer.specs.declared.Refusal.TheVariants.{NoSuchItem, BadTime}
use Rattle.entry.specs.declared.Entry.{Entry}
use Rattle.number.specs.Signed.{word_of}
use Rattle.alarm.specs.declared.Changed.{Changed}
use Rattle.alarm.specs.Alarm.{input_of}
use Rattle.alarm.specs.Issued.{issued_of as alarm_record}
use Rattle.status.specs.declared.Set.{Set as StatusSet}
use Rattle.status.specs.Status.{set_of as status_set}
use Rattle.subscription.specs.Subscription.{issues_on}
use Rattle.aggregated.specs.declared.Set.{Set as AggregatedSet}
use Rattle.aggregated.specs.Aggregated.{set_of as aggregated_set}
use Rattle.aggregated.specs.Issued.{issued_of as aggregated_record}
use Rattle.pool_laws.specs.Upwards.{entries_to, entry_if}
use Rattle.site.specs.declared.Site.{Site}
use Rattle.site.specs.declared.Step.{Step}
use Rattle.site.specs.Site.{bad_time_at, link_at, with_aggregated, has_primary, owner_of}
use Rattle.site.specs.Parts.{alarm_at, with_alarm, status_at, with_status, subscription_at}
use Rattle.site.specs.Records.{status_record}
use Rattle.site.specs.Call.{Plan, issues, batch_of, never, when, report_of, concluded, step_of}

-- numbers 3 and 5, where the site table has `count` of the items
abbrev pub item_refuses : Site → ℕ → ℕ → ℕ → Refusal → Bool
item_refuses s count k time = when NoSuchItem (leb count k) (when BadTime (bad_time_at s time) never)

-- what a call that writes nothing does, where none of its own conditions applies
abbrev pub planned : Site → ℕ → Plan → Step
planned s time p = concluded s p.site (batch_of p) time (report_of p 0)

-- an event's record, where it makes one: alarm records are issued for the primary alone
abbrev pub alarm_entries : Site → ℕ → Changed → List Entry
alarm_entries s k c = entry_if (both c.records (has_primary s)) (alarm_record c.alarm (owner_of s s.primary) k)

abbrev pub alarm_change : Site → ℕ → Bool → ℕ → Changed
alarm_change s k active time = input_of (alarm_at s k) active time

abbrev pub alarm_refuses : Site → ℕ → ℕ → Refusal → Bool
alarm_refuses s k time = item_refuses s s.table.alarmcount k time

abbrev pub alarm_plan : Site → ℕ → Bool → ℕ → Plan
alarm_plan s k active time =
    issues (with_alarm s k (alarm_change s k active time).alarm) (alarm_entries s k (alarm_change s k active time))

abbrev pub alarm_step : Site → ℕ → Bool → ℕ → Step
alarm_step s k active time = step_of s time (alarm_refuses s k time) (alarm_plan s k active time) 0

-- link l's record of status k, where its subscription issues one
abbrev pub status_entry : Site → ℕ → StatusSet → ℕ → ℕ → List Entry
status_entry s k x time l = entry_if (issues_on (subscription_at s (l * 32 + k)) x.changed) (status_record (link_at s l) x.status (owner_of s l) k time)

abbrev pub status_entries : Site → ℕ → StatusSet → ℕ → List Entry
status_entries s k x time = entries_to (status_entry s k x time) s.linkcount

abbrev pub status_change : Site → ℕ → ℤ → StatusSet
status_change s k value = status_set (status_at s k) (word_of value)

abbrev pub status_refuses : Site → ℕ → ℕ → Refusal → Bool
status_refuses s k time = item_refuses s s.table.statuscount k time

abbrev pub status_plan : Site → ℕ → ℤ → ℕ → Plan
status_plan s k value time =
    issues (with_status s k (status_change s k value).status) (status_entries s k (status_change s k value) time)

abbrev pub status_step : Site → ℕ → ℤ → ℕ → Step
status_step s k value time = step_of s time (status_refuses s k time) (status_plan s k value time) 0

-- a changed aggregated value issues a record for every link
abbrev pub aggregated_entry : Site → AggregatedSet → ℕ → List Entry
aggregated_entry s x l = entry_if x.changed (aggregated_record x.aggregated (owner_of s l))

abbrev pub aggregated_entries : Site → AggregatedSet → List Entry
aggregated_entries s x = entries_to (aggregated_entry s x) s.linkcount

abbrev pub aggregated_change : Site → ℕ → ℕ → AggregatedSet
aggregated_change s value time = aggregated_set s.aggregated value time

abbrev pub aggregated_refuses : Site → ℕ → Refusal → Bool
aggregated_refuses s time = when BadTime (bad_time_at s time) never

abbrev pub aggregated_plan : Site → ℕ → ℕ → Plan
aggregated_plan s value time =
    issues (with_aggregated s (aggregated_change s value time).aggregated) (aggregated_entries s (aggregated_change s value time))

abbrev pub aggregated_step : Site → ℕ → ℕ → Step
aggregated_step s value time = step_of s time (aggregated_refuses s time) (aggregated_plan s value time) 0
