-- The next link after each act.
-- Assumes nothing.
use Rattle.std.specs.Prelude.{ℕ, ◌+◌, Bool, false, leb, ltb}
use Rattle.basis.specs.Pick.{pick}
use Rattle.identity.specs.declared.Identity.{Identity}
use Rattle.awaited.specs.declared.Purpose.{Purpose}
use Rattle.awaited.specs.declared.Purpose.TheVariants.{Version, Watchdog, Entry, Other}
use Rattle.awaited.specs.declared.Found.{Found}
use Rattle.awaited.specs.declared.Found.TheVariants.{For, Nothing}
use Rattle.awaited.specs.Awaited.{add_of, find_of, remove_of, how_many_of}
use Rattle.link.specs.declared.Link.{Link}
use Rattle.link.specs.declared.Answered.{Answered}
use Rattle.link.specs.Deed.Deed.{Connected, OurVersion, OurVersionAcked, TheirVersion, OurWatchdog, OurWatchdogAcked, TheirWatchdog, OurAggregated}
use Rattle.link.specs.Fields.{closed_link, with_awaited, with_beat, with_alarm, with_version, mark}
use Rattle.link.specs.Phase.{phase_of, is_up, beats_in, takes_in, closes_on}

unfoldable pub connect_of : Link → Link
connect_of l = pick l.connected l (mark Connected closed_link)

-- our Version goes out once in a life
unfoldable pub version_out_of : Link → Identity → ℕ → Link
version_out_of l id t =
    pick (pick l.versionout false l.connected) (mark OurVersion (with_awaited l (add_of l.awaited id t Version))) l

-- theirs is judged only after ours went out, and once
unfoldable pub may_judge_of : Link → Bool
may_judge_of l = pick l.versiontaken false l.versionout

unfoldable pub version_accepted_of : Link → ℕ → ℕ → ℕ → Link
version_accepted_of l x y z = pick (may_judge_of l) (mark TheirVersion (with_version l x y z)) l

unfoldable pub may_beat_of : Link → Bool
may_beat_of l = beats_in (phase_of l) l.watchdogout

unfoldable pub watchdog_out_of : Link → Identity → ℕ → Link
watchdog_out_of l id t =
    pick (may_beat_of l) (mark OurWatchdog (with_beat (with_awaited l (add_of l.awaited id t Watchdog)) t)) l

unfoldable pub watchdog_taken_of : Link → Link
watchdog_taken_of l = pick (takes_in (phase_of l)) (mark TheirWatchdog l) l

-- any other message goes out in Up alone
unfoldable pub message_out_of : Link → Identity → ℕ → Purpose → Link
message_out_of l id t p = pick (is_up (phase_of l)) (with_awaited l (add_of l.awaited id t p)) l

unfoldable pub removed_of : Link → Identity → Link
removed_of l id = with_awaited l (remove_of l.awaited id)

-- what an acknowledgement adds, by what the message was sent for
unfoldable pub noted_for : Purpose → Link → Link
noted_for Version l = mark OurVersionAcked l
noted_for Watchdog l = mark OurWatchdogAcked l
noted_for (Entry q) l = l
noted_for Other l = l

unfoldable pub noted : Found → Link → Link
noted Nothing l = l
noted (For p) l = noted_for p l

-- an answer to this identity closes the link; the Bool says that it is a MessageAck
unfoldable pub closes_of : Link → Identity → Bool → Bool
closes_of l id ack = pick ack false (closes_on (phase_of l) (find_of l.awaited id))

unfoldable pub answered_of : Link → Identity → Bool → Link
answered_of l id ack =
    pick (closes_of l id ack) closed_link
    (pick ack (noted (find_of l.awaited id) (removed_of l id)) (removed_of l id))

-- what an answer comes to
abbrev pub answered_by : Link → Identity → Bool → Answered
answered_by l id ack = record { link = answered_of l id ack; found = find_of l.awaited id; closes = closes_of l id ack }

-- the first pass goes on: the AggregatedStatus is out, the next alarm is out
unfoldable pub aggregated_passed_of : Link → Link
aggregated_passed_of l = pick (is_up (phase_of l)) (mark OurAggregated l) l

unfoldable pub alarm_passed_of : Link → Link
alarm_passed_of l = pick (is_up (phase_of l)) (pick (ltb l.alarm 4294967295) (with_alarm l (l.alarm + 1)) l) l

-- 8 or more are awaited; 16 are
unfoldable pub crowded_of : Link → Bool
crowded_of l = leb 8 (how_many_of l.awaited)

unfoldable pub full_of : Link → Bool
full_of l = leb 16 (how_many_of l.awaited)
