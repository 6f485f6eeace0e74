-- Their Watchdog.
-- Assumes nothing.
use Rattle.std.specs.Prelude.{ℕ, [], leb}
use Rattle.basis.specs.Pick.{pick}
use Rattle.answer.specs.Given.{Hint}
use Rattle.answer.specs.Given.Hint.{none, clock}
use Rattle.link.specs.declared.Role.{Role}
use Rattle.link.specs.declared.Role.TheVariants.{Primary, Secondary}
use Rattle.link.specs.Steps.{watchdog_taken_of}
use Rattle.read_head.specs.declared.GotTime.{GotTime}
use Rattle.site.specs.declared.Site.{Site}
use Rattle.site.specs.Site.{link_at, with_link, role_of}
use Rattle.packet_answer.specs.declared.Question.{Question}
use Rattle.packet_answer.specs.Taken.{Taken, acked, by_verdict}

-- "Only the primary's watchdog time is a clock hint"; document 02, request 05: "The clock hint is given only where three or more stood"
abbrev pub hint_from : Role → GotTime → Hint
hint_from Primary f = pick (leb 3 f.decimals) (clock f.time) none
hint_from Secondary f = none

abbrev pub beaten : Site → ℕ → Site
beaten s l = with_link s l (watchdog_taken_of (link_at s l))

-- "with fewer the watchdog is acknowledged and no hint given"
abbrev pub beat : Site → Question → GotTime → Taken
beat s q f = acked (beaten s q.link) [] q (hint_from (role_of s q.link) f)

abbrev pub watchdog_taken : Site → Question → GotTime → Taken
watchdog_taken s q f = by_verdict f.verdict s q (beat s q f)
