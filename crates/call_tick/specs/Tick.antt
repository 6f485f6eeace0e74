-- Tick.
-- Assumes nothing.
use Rattle.std.specs.Prelude.{ℕ, Bool, List, [], map}
use Rattle.answer.specs.declared.Refusal.{Refusal}
use Rattle.answer.specs.declared.Refusal.TheVariants.{BadTime}
use Rattle.answer.specs.declared.Report.{Report}
use Rattle.answer.specs.Given.Hint.{none}
use Rattle.entry.specs.declared.Entry.{Entry}
use Rattle.site.specs.declared.Site.{Site}
use Rattle.site.specs.declared.Step.{Step}
use Rattle.site.specs.Site.{bad_time_at, with_subscriptions}
use Rattle.site.specs.Call.{Plan, never, when, report_of, step_of}
use Rattle.call_tick.specs.Closing.{closed_to, mask_to}
use Rattle.call_tick.specs.Intervals.{renewed, records_of}

abbrev pub tick_refuses : Site → ℕ → Refusal → Bool
tick_refuses s time = when BadTime (bad_time_at s time) never

unfoldable pub site_after : Site → ℕ → Site
site_after s time = with_subscriptions (closed_to s time 4) (map (renewed time) s.subscriptions)

-- "A tick closes its links before it issues": the links are as it leaves them
abbrev pub issued_at : Site → ℕ → List Entry
issued_at s time = records_of s.site s.subscriptions s.statuses (site_after s time).links time

abbrev pub tick_plan : Site → ℕ → Plan
tick_plan s time = record { site = site_after s time; issued = issued_at s time; messages = []; closed = mask_to s time 4; hint = none; commands = [] }

abbrev pub report_after : Site → ℕ → Report
report_after s time = report_of (tick_plan s time) 0

abbrev pub tick_step : Site → ℕ → Step
tick_step s time = step_of s time (tick_refuses s time) (tick_plan s time) 0
