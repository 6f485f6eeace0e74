-- The phase of a link, from what has happened in this life; and which answers close it.
-- Assumes nothing.
use Rattle.std.specs.Prelude.{Bool, true, false}
use Rattle.basis.specs.Pick.{pick, both}
use Rattle.awaited.specs.declared.Purpose.{Purpose}
use Rattle.awaited.specs.declared.Purpose.TheVariants.{Version, Watchdog, Entry, Other}
use Rattle.awaited.specs.declared.Found.{Found}
use Rattle.awaited.specs.declared.Found.TheVariants.{For, Nothing}
use Rattle.link.specs.declared.Link.{Link}
use Rattle.link.specs.declared.Phase.{Phase}
use Rattle.link.specs.declared.Phase.TheVariants.{Down, Greeting, Beating, Up}

-- both Versions: ours out and acknowledged, theirs accepted
unfoldable pub greeted : Link → Bool
greeted l = both l.versionout (both l.versionacked l.versiontaken)

-- both Watchdogs: ours out and acknowledged, one of theirs taken
unfoldable pub beaten : Link → Bool
beaten l = both l.watchdogout (both l.watchdogacked l.watchdogtaken)

unfoldable pub phase_of : Link → Phase
phase_of l = pick l.connected (pick (greeted l) (pick (beaten l) Up Beating) Greeting) Down

abbrev pub is_up : Phase → Bool
is_up Down = false
is_up Greeting = false
is_up Beating = false
is_up Up = true

abbrev pub is_beating : Phase → Bool
is_beating Down = false
is_beating Greeting = false
is_beating Beating = true
is_beating Up = false

-- Watchdogs go out: one while Beating, any in Up
abbrev pub beats_in : Phase → Bool → Bool
beats_in Down out = false
beats_in Greeting out = false
beats_in Beating out = pick out false true
beats_in Up out = true

-- Watchdogs come in
abbrev pub takes_in : Phase → Bool
takes_in Down = false
takes_in Greeting = false
takes_in Beating = true
takes_in Up = true

-- a MessageNotAck to what was sent for this closes the link: our Version, or our Watchdog while Beating
abbrev pub closes_for : Phase → Purpose → Bool
closes_for f Version = true
closes_for f Watchdog = is_beating f
closes_for f (Entry q) = false
closes_for f Other = false

abbrev pub closes_on : Phase → Found → Bool
closes_on f Nothing = false
closes_on f (For p) = closes_for f p
