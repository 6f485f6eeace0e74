-- The call pump: sends the next due message of link l, one at most. `id` is the identity to be sent, version 4.
-- Assumes nothing.
use Rattle.std.specs.Prelude.{ℕ, ◌<◌, ◌≡◌, Bool, true, false, List, [], ◌∷◌, ltb}
use Rattle.basis.specs.Pick.{pick}
use Rattle.answer.specs.declared.Refusal.{Refusal}
use Rattle.answer.specs.declared.Refusal.TheVariants.{NoSuchLink, ShortOutput, BadTime, WrongPhase, NothingDue, ManyAwaited, IdentityAwaited}
use Rattle.answer.specs.declared.Answer.{Answer}
use Rattle.answer.specs.declared.Answer.TheVariants.{Done, Refused}
use Rattle.answer.specs.Order.{in_order, judged}
use Rattle.answer.specs.Given.Hint.{none}
use Rattle.label.specs.Label.{text_of}
use Rattle.identity.specs.declared.Identity.{Identity}
use Rattle.awaited.specs.Awaited.{find_of, is_awaited}
use Rattle.pool.specs.declared.Sought.{Sought}
use Rattle.pool.specs.declared.Sought.TheVariants.{Found as FoundEntry, Nothing as NoEntry}
use Rattle.pool.specs.Pool.{oldest_unsent}
use Rattle.pool_laws.specs.Batch.{beginning}
use Rattle.link.specs.declared.Due.{Due}
use Rattle.link.specs.declared.Due.TheVariants.{Nothing, Version, Watchdog, Aggregated, Alarm, Entry}
use Rattle.link.specs.Steps.{crowded_of}
use Rattle.link.specs.Due.{due_of}
use Rattle.write_message.specs.Message.{Message}
use Rattle.write_message.specs.Message.Message.{version, watchdog}
use Rattle.site.specs.declared.Site.{Site}
use Rattle.site.specs.declared.Step.{Step}
use Rattle.site.specs.Site.{no_link_at, bad_time_at, role_of, owner_of, link_at, down_at, with_issued}
use Rattle.site.specs.Call.{Plan, only, never, when, report_of, written_to, nothing_of}
use Rattle.send_message.specs.Sending.{alarm_message, aggregated_message, entry_message}
use Rattle.send_after.specs.Outgoing.{version_sent, watchdog_sent, aggregated_sent, alarm_sent, entry_sent}

abbrev pub is_held : Sought → Bool
is_held (FoundEntry x) = true
is_held NoEntry = false

-- what is due on the link
abbrev pub due_at : Site → ℕ → ℕ → Due
due_at s l time =
    due_of (link_at s l) time s.period (role_of s l) s.table.alarmcount (is_held (oldest_unsent s.pool (owner_of s l)))

-- an alarm that is due has a number below n
abbrev pub Below : ℕ → Due → Type 0
Below n Nothing = Unit {0}
Below n Version = Unit {0}
Below n Watchdog = Unit {0}
Below n Aggregated = Unit {0}
Below n (Alarm k) = k < n
Below n Entry = Unit {0}

abbrev pub is_nothing : Due → Bool
is_nothing Nothing = true
is_nothing Version = false
is_nothing Watchdog = false
is_nothing Aggregated = false
is_nothing (Alarm k) = false
is_nothing Entry = false

-- room is the length of the output
abbrev pub pump_refuses : Site → ℕ → ℕ → Identity → ℕ → Refusal → Bool
pump_refuses s l time id room =
    when NoSuchLink (no_link_at s l)
    (when ShortOutput (ltb room 4096)
    (when BadTime (bad_time_at s time)
    (when WrongPhase (down_at s l)
    (when NothingDue (is_nothing (due_at s l time))
    (when ManyAwaited (crowded_of (link_at s l))
    (when IdentityAwaited (is_awaited (find_of (link_at s l).awaited id)) never))))))

-- a plan that sends one message and issues nothing
abbrev pub sends : Site → Message → Plan
sends after m = record { site = after; issued = []; messages = m ∷ []; closed = 0; hint = none; commands = [] }

abbrev pub version_plan : Site → ℕ → ℕ → Identity → Plan
version_plan s l time id = sends (version_sent s l time id) (version id.bytes (text_of s.table.site) (text_of s.table.sxl))

-- its wTs is the call's time
abbrev pub watchdog_plan : Site → ℕ → ℕ → Identity → Plan
watchdog_plan s l time id = sends (watchdog_sent s l time id) (watchdog id.bytes time)

abbrev pub aggregated_plan : Site → ℕ → ℕ → Identity → Plan
aggregated_plan s l time id = sends (aggregated_sent s l time id) (aggregated_message s id.bytes)

abbrev pub alarm_plan : Site → ℕ → ℕ → Identity → ℕ → Plan
alarm_plan s l time id k = sends (alarm_sent s l time id k) (alarm_message s id.bytes k)

-- the oldest held record not sent
abbrev pub entry_plan : Sought → Site → ℕ → ℕ → Identity → Plan
entry_plan NoEntry s l time id = only s
entry_plan (FoundEntry x) s l time id = sends (entry_sent s l time id x.entry.sequence) (entry_message s id.bytes x.entry)

abbrev pub plan_for : Due → Site → ℕ → ℕ → Identity → Plan
plan_for Nothing s l time id = only s
plan_for Version s l time id = version_plan s l time id
plan_for Watchdog s l time id = watchdog_plan s l time id
plan_for Aggregated s l time id = aggregated_plan s l time id
plan_for (Alarm k) s l time id = alarm_plan s l time id k
plan_for Entry s l time id = entry_plan (oldest_unsent s.pool (owner_of s l)) s l time id

abbrev pub pump_plan : Site → ℕ → ℕ → Identity → Plan
pump_plan s l time id = plan_for (due_at s l time) s l time id

-- The parts of the code: what the checks answer, and a plan that is carried out where none refuses.
abbrev pub verdict_of : Site → ℕ → ℕ → Identity → ℕ → Answer
verdict_of s l time id room = judged (pump_refuses s l time id room) in_order (Done nothing_of)

-- the later four of them, of which these apply
abbrev pub later_of : Bool → Bool → Bool → Bool → Answer
later_of down nothing crowded awaited =
    pick down (Refused WrongPhase)
    (pick nothing (Refused NothingDue)
    (pick crowded (Refused ManyAwaited)
    (pick awaited (Refused IdentityAwaited) (Done nothing_of))))

abbrev pub later_verdict : Site → ℕ → ℕ → Identity → Answer
later_verdict s l time id =
    later_of (down_at s l) (is_nothing (due_at s l time)) (crowded_of (link_at s l)) (is_awaited (find_of (link_at s l).awaited id))

-- nothing is issued
abbrev pub finished : Plan → ℕ → ℕ → Step
finished p time end =
    record {
      site = with_issued p.site (beginning p.site.pool p.site.next) time;
      answer = Done (report_of p end);
    }

pub record Sends (time : ℕ) (p : Plan) (xs ys : List ℕ) (r : Step) : Type 0 where
  pub step : r ≡ finished p time (written_to xs p.messages).end
  pub out : ys ≡ (written_to xs p.messages).bytes
