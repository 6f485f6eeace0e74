-- The site after a message of link l went out: the link awaits an answer to the identity, and a record that the message carries is marked as sent.
-- Assumes nothing.
use Rattle.std.specs.Prelude.{ℕ, Bool, eqb}
use Rattle.basis.specs.Pick.{pick, both}
use Rattle.identity.specs.declared.Identity.{Identity}
use Rattle.entry.specs.declared.Entry.{Entry}
use Rattle.awaited.specs.declared.Purpose.{Purpose}
use Rattle.awaited.specs.declared.Purpose.TheVariants.{Entry as ForEntry, Other as ForOther}
use Rattle.pool.specs.declared.Pool.{Pool}
use Rattle.pool.specs.declared.Sought.{Sought}
use Rattle.pool.specs.declared.Sought.TheVariants.{Found, Nothing}
use Rattle.pool.specs.Pool.{mark_of, newest_alarm}
use Rattle.alarm.specs.Issued.{issued_of}
use Rattle.link.specs.declared.Link.{Link}
use Rattle.link.specs.Steps.{version_out_of, watchdog_out_of, message_out_of, aggregated_passed_of, alarm_passed_of}
use Rattle.site.specs.declared.Site.{Site}
use Rattle.site.specs.Site.{link_at, with_link, with_pool, owner_of}
use Rattle.site.specs.Parts.{alarm_at}
use Rattle.send_after.specs.declared.Carried.{Carried}
use Rattle.send_after.specs.declared.Carried.TheVariants.{Held, NoRecord}

abbrev pub purpose_of : Carried → Purpose
purpose_of (Held q) = ForEntry q
purpose_of NoRecord = ForOther

-- a record of owner o that is sent stays held
abbrev pub marked : Pool → ℕ → Carried → Pool
marked p o (Held q) = mark_of p o q
marked p o NoRecord = p

-- "equals that alarm's last event, states and time": the flags are the event and the states
abbrev pub same_event : Entry → Entry → Bool
same_event x e = both (eqb x.time e.time) (eqb x.flags e.flags)

-- the newest held record of an alarm, where it equals the record e of that alarm's last event
abbrev pub carried_of : Entry → Sought → Carried
carried_of e Nothing = NoRecord
carried_of e (Found x) = pick (same_event x.entry e) (Held x.entry.sequence) NoRecord

abbrev pub carried_at : Site → ℕ → ℕ → Carried
carried_at s l k = carried_of (issued_of (alarm_at s k) (owner_of s l) k) (newest_alarm s.pool (owner_of s l) k)

abbrev pub message_out : Link → Identity → ℕ → Carried → Link
message_out k id time c = message_out_of k id time (purpose_of c)

abbrev pub version_sent : Site → ℕ → ℕ → Identity → Site
version_sent s l time id = with_link s l (version_out_of (link_at s l) id time)

abbrev pub watchdog_sent : Site → ℕ → ℕ → Identity → Site
watchdog_sent s l time id = with_link s l (watchdog_out_of (link_at s l) id time)

-- the first pass: its AggregatedStatus, and its next alarm
abbrev pub aggregated_sent : Site → ℕ → ℕ → Identity → Site
aggregated_sent s l time id = with_link s l (aggregated_passed_of (message_out (link_at s l) id time NoRecord))

abbrev pub alarm_sent_with : Carried → Site → ℕ → ℕ → Identity → Site
alarm_sent_with c s l time id = with_pool (with_link s l (alarm_passed_of (message_out (link_at s l) id time c))) (marked s.pool (owner_of s l) c)

abbrev pub alarm_sent : Site → ℕ → ℕ → Identity → ℕ → Site
alarm_sent s l time id k = alarm_sent_with (carried_at s l k) s l time id

-- the held record numbered q
abbrev pub entry_sent : Site → ℕ → ℕ → Identity → ℕ → Site
entry_sent s l time id q = with_pool (with_link s l (message_out (link_at s l) id time (Held q))) (marked s.pool (owner_of s l) (Held q))
