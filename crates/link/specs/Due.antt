-- What pump sends next, in document 01's order.
-- Assumes nothing.
use Rattle.std.specs.Prelude.{ℕ, ◌+◌, ◌*◌, Bool, leb, ltb}
use Rattle.basis.specs.Pick.{pick}
use Rattle.link.specs.declared.Link.{Link}
use Rattle.link.specs.declared.Role.{Role}
use Rattle.link.specs.declared.Role.TheVariants.{Primary, Secondary}
use Rattle.link.specs.declared.Due.{Due}
use Rattle.link.specs.declared.Due.TheVariants.{Nothing, Version, Watchdog, Aggregated, Alarm, Entry}
use Rattle.link.specs.declared.Phase.{Phase}
use Rattle.link.specs.declared.Phase.TheVariants.{Down, Greeting, Beating, Up}
use Rattle.link.specs.Phase.{phase_of}

-- the first pass goes through the alarms on the primary alone
abbrev pub alarms_for : Role → ℕ → ℕ
alarms_for Primary n = n
alarms_for Secondary n = 0

-- a period, in seconds, or more after the last Watchdog; then the first pass; then the records
unfoldable pub due_up : Link → ℕ → ℕ → Role → ℕ → Bool → Due
due_up l time period role alarms unsent =
    pick (leb (l.beat + period * 1000) time) Watchdog
    (pick l.aggregatedout
    (pick (ltb l.alarm (alarms_for role alarms)) (Alarm l.alarm)
    (pick unsent Entry Nothing))
    Aggregated)

abbrev pub due_in : Phase → Link → Due → Due
due_in Down l up = Nothing
due_in Greeting l up = pick l.versionout Nothing Version
due_in Beating l up = pick l.watchdogout Nothing Watchdog
due_in Up l up = up

unfoldable pub due_of : Link → ℕ → ℕ → Role → ℕ → Bool → Due
due_of l time period role alarms unsent = due_in (phase_of l) l (due_up l time period role alarms unsent)
