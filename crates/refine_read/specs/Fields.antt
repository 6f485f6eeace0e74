-- The fields of the messages without lists, in the machine's words.
-- Assumes nothing.
use Prim.Native.String.{String}
use Rattle.std.specs.Prelude.{◌≡◌, Bool, true}
use Rattle.std.proofs.Math.Option.{some}
use Rattle.basis.specs.Text.{text}
use Rattle.calendar.specs.declared.Time.TheVariants.{Is}
use Rattle.calendar.specs.Read.{read_time}
use Rattle.label.specs.Label.{label_of}
use Rattle.json_value.specs.Grammar.{Json}
use Rattle.read_head.specs.declared.Verdict.TheVariants.{Good}
use Rattle.read_head.specs.declared.Order.{Order}
use Rattle.read_head.specs.declared.Order.TheVariants.{Request, Acknowledge, Suspend, Resume}
use Rattle.read_head.specs.declared.GotLabel.{GotLabel}
use Rattle.read_head.specs.declared.GotTime.{GotTime}
use Rattle.read_head.specs.declared.AlarmFields.{AlarmFields}
use Rattle.machine.specs.Json.{string_at, string_of, is_type}
use Rattle.refine_read.specs.Verdicts.{verdict_in}

-- "aSp (Request, Acknowledge, Suspend or Resume)"
abbrev pub order_word : Order → String
order_word Request = "Request"
order_word Acknowledge = "Acknowledge"
order_word Suspend = "Suspend"
order_word Resume = "Resume"

-- "Alarm cId, aCId, aSp"
pub record AlarmReads (j : Json) (f : AlarmFields) : Type 0 where
  pub verdict : (older : Bool) → is_type "Alarm" j ≡ true → f.verdict ≡ verdict_in older j
  pub component : f.verdict ≡ Good → f.component ≡ label_of (string_of "cId" j)
  pub code : f.verdict ≡ Good → f.code ≡ label_of (string_of "aCId" j)
  pub order : f.verdict ≡ Good → string_at "aSp" j ≡ some (text (order_word f.order))

-- "Watchdog wTs": the time and how many decimals stood there, of which the machine takes the hint
pub record WatchdogReads (j : Json) (f : GotTime) : Type 0 where
  pub verdict : (older : Bool) → is_type "Watchdog" j ≡ true → f.verdict ≡ verdict_in older j
  pub time : f.verdict ≡ Good → read_time (string_of "wTs" j) ≡ Is f.time f.decimals

-- "AggregatedStatusRequest cId"
pub record AggregatedReads (j : Json) (f : GotLabel) : Type 0 where
  pub verdict : (older : Bool) → is_type "AggregatedStatusRequest" j ≡ true → f.verdict ≡ verdict_in older j
  pub component : f.verdict ≡ Good → f.label ≡ label_of (string_of "cId" j)
