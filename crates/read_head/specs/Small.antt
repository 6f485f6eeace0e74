-- The fields of the messages without lists, or the first reason that applies. `f` gives a message's elements by their names.
-- Assumes nothing.
use Rattle.std.specs.Prelude.{List, ℕ}
use Rattle.basis.specs.Text.{text}
use Rattle.json_value.specs.Grammar.{Json}
use Rattle.json_value.specs.Reader.{skip_ws}
use Rattle.read_head.specs.declared.GotTime.{GotTime}
use Rattle.read_head.specs.declared.GotLabel.{GotLabel}
use Rattle.read_head.specs.declared.GotOrder.{GotOrder}
use Rattle.read_head.specs.declared.AlarmFields.{AlarmFields}
use Rattle.read_head.specs.Word.{Word, word_in, word_at}
use Rattle.read_head.specs.Values.{worst, got_label, got_time, got_order}

-- Watchdog: wTs
abbrev pub watchdog_by : (List ℕ → Word) → GotTime
watchdog_by f = got_time (f (text "wTs"))

-- AggregatedStatusRequest: cId
abbrev pub aggregated_by : (List ℕ → Word) → GotLabel
aggregated_by f = got_label (f (text "cId"))

-- Alarm: cId, aCId, aSp
abbrev pub alarm_from : GotLabel → GotLabel → GotOrder → AlarmFields
alarm_from c a o =
    record {
      verdict = worst c.verdict (worst a.verdict o.verdict);
      component = c.label;
      code = a.label;
      order = o.order;
    }

abbrev pub alarm_by : (List ℕ → Word) → AlarmFields
alarm_by f = alarm_from (got_label (f (text "cId"))) (got_label (f (text "aCId"))) (got_order (f (text "aSp")))

-- of a packet's meaning
unfoldable pub watchdog_in : Json → GotTime
watchdog_in j = watchdog_by (word_in j)

unfoldable pub aggregated_in : Json → GotLabel
aggregated_in j = aggregated_by (word_in j)

unfoldable pub alarm_in : Json → AlarmFields
alarm_in j = alarm_by (word_in j)

-- of any text, as the code looks the elements up
unfoldable pub watchdog_at : List ℕ → GotTime
watchdog_at s = watchdog_by (word_at (skip_ws s))

unfoldable pub aggregated_at : List ℕ → GotLabel
aggregated_at s = aggregated_by (word_at (skip_ws s))

unfoldable pub alarm_at : List ℕ → AlarmFields
alarm_at s = alarm_by (word_at (skip_ws s))
