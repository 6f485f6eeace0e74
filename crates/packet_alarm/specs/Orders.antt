-- What a supervisor orders of an alarm, and its request for the aggregated status.
-- Assumes nothing.
use Rattle.std.specs.Prelude.{ℕ, Bool, false, List, [], ◌∷◌, eqb}
use Rattle.basis.specs.Pick.{pick, both}
use Rattle.answer.specs.Given.Hint.{none}
use Rattle.entry.specs.declared.Entry.{Entry}
use Rattle.alarm.specs.declared.Changed.{Changed}
use Rattle.alarm.specs.declared.Order.{Order as Change}
use Rattle.alarm.specs.declared.Order.TheVariants.{Acknowledge as Acknowledging, Suspend as Suspending, Resume as Resuming}
use Rattle.alarm.specs.Alarm.{order_of}
use Rattle.alarm.specs.Issued.{issued_of}
use Rattle.link.specs.declared.Role.{Role}
use Rattle.link.specs.declared.Role.TheVariants.{Primary, Secondary}
use Rattle.read_head.specs.declared.Order.{Order}
use Rattle.read_head.specs.declared.Order.TheVariants.{Request, Acknowledge, Suspend, Resume}
use Rattle.read_head.specs.declared.AlarmFields.{AlarmFields}
use Rattle.read_head.specs.declared.GotLabel.{GotLabel}
use Rattle.packet_lookup.specs.declared.Sought.{Sought}
use Rattle.packet_lookup.specs.declared.Sought.TheVariants.{Is, Nothing}
use Rattle.packet_lookup.specs.declared.SoughtAlarm.{SoughtAlarm}
use Rattle.packet_lookup.specs.declared.SoughtAlarm.TheVariants.{Alarm, NoComponent, NoAlarm}
use Rattle.packet_lookup.specs.Sought.{component_sought, alarm_sought}
use Rattle.send_message.specs.Sending.{alarm_message, aggregated_message}
use Rattle.site.specs.declared.Site.{Site}
use Rattle.site.specs.Site.{role_of, has_primary, owner_of}
use Rattle.site.specs.Parts.{alarm_at, with_alarm}
use Rattle.packet_answer.specs.declared.Question.{Question}
use Rattle.packet_answer.specs.Taken.{Taken, not_acked, acked, replied, by_verdict, unless_busy, unknown_component, unknown_alarm}

-- "alarm records are issued for the primary alone": its owner
abbrev pub records_of : Site → ℕ → Changed → List Entry
records_of s k c = pick (both c.records (has_primary s)) (issued_of c.alarm (owner_of s s.primary) k ∷ []) []

abbrev pub changed_to : Site → Question → ℕ → Changed → Taken
changed_to s q k c = acked (with_alarm s k c.alarm) (records_of s k c) q none

-- Acknowledge, Suspend and Resume of alarm k, from any link
unfoldable pub change_taken : Site → Question → ℕ → Change → Taken
change_taken s q k order = changed_to s q k (order_of (alarm_at s k) order q.time)

abbrev pub is_zero : Sought → Bool
is_zero (Is k) = eqb k 0
is_zero Nothing = false

-- of one packet
module _ (s : Site) (q : Question) where
  -- "Request from the primary is answered, suspended or not, with states, last event and its time, carrying no record;
  -- from a secondary it is acknowledged only"
  abbrev pub request_by : ℕ → Role → Taken
  request_by k Primary = unless_busy s q (replied s q (alarm_message s q.identity.bytes k))
  request_by k Secondary = acked s [] q none

  unfoldable pub request_taken : ℕ → Taken
  request_taken k = request_by k (role_of s q.link)

  abbrev pub ordered : ℕ → Order → Taken
  ordered k Request = request_taken k
  ordered k Acknowledge = change_taken s q k Acknowledging
  ordered k Suspend = change_taken s q k Suspending
  ordered k Resume = change_taken s q k Resuming

  abbrev pub ordered_of : Order → SoughtAlarm → Taken
  ordered_of order (Alarm k) = ordered k order
  ordered_of order NoComponent = not_acked s q unknown_component
  ordered_of order NoAlarm = not_acked s q unknown_alarm

  unfoldable pub found_taken : AlarmFields → Taken
  found_taken f = ordered_of f.order (alarm_sought s.table f.component f.code)

  unfoldable pub alarm_taken : AlarmFields → Taken
  alarm_taken f = by_verdict f.verdict s q (found_taken f)

  -- "in AggregatedStatusRequest every component but 0 is "Unknown component""
  abbrev pub aggregated_of : Sought → Taken
  aggregated_of component =
      pick (is_zero component) (unless_busy s q (replied s q (aggregated_message s q.identity.bytes)))
      (not_acked s q unknown_component)

  unfoldable pub aggregated_taken : GotLabel → Taken
  aggregated_taken f = by_verdict f.verdict s q (aggregated_of (component_sought s.table f.label))
