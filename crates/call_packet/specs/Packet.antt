-- Packet: which are ignored, what each other one comes to, and the call.
-- Assumes nothing.
use Rattle.std.specs.Prelude.{ℕ, Bool, true, false, List, eqb, ltb, length}
use Rattle.basis.specs.Pick.{pick, both}
use Rattle.answer.specs.declared.Refusal.{Refusal}
use Rattle.answer.specs.declared.Refusal.TheVariants.{NoSuchLink, ShortOutput, LongPacket, BadTime, WrongPhase, Ignored}
use Rattle.identity.specs.declared.Identity.{Identity}
use Rattle.awaited.specs.Awaited.{find_of, is_awaited}
use Rattle.link.specs.declared.Link.{Link}
use Rattle.link.specs.declared.Phase.{Phase}
use Rattle.link.specs.declared.Phase.TheVariants.{Down, Greeting, Beating, Up}
use Rattle.link.specs.Phase.{phase_of, is_beating}
use Rattle.link.specs.Steps.{may_judge_of}
use Rattle.read_head.specs.declared.Verdict.{Verdict}
use Rattle.read_head.specs.declared.Kind.{Kind}
use Rattle.read_head.specs.declared.Kind.TheVariants.{Version, Watchdog, Alarm, AggregatedStatusRequest, StatusRequest, StatusSubscribe, StatusUnsubscribe, CommandRequest, Unexpected}
use Rattle.read_head.specs.declared.Class.{Class}
use Rattle.read_head.specs.declared.Class.TheVariants.{Ignored as NoClass, Acked, NotAcked, Asked}
use Rattle.read_head.specs.declared.Head.{Head}
use Rattle.read_head.specs.Head.{kind_number, head_at}
use Rattle.read_head.specs.Small.{watchdog_at, aggregated_at, alarm_at}
use Rattle.read_lists.specs.Version.{version_at}
use Rattle.read_lists.specs.declared.Asking.TheVariants.{Plain}
use Rattle.read_lists.specs.Status.{status_at}
use Rattle.read_commands.specs.Command.{command_at}
use Rattle.site.specs.declared.Site.{Site}
use Rattle.site.specs.Site.{no_link_at, bad_time_at, down_at, link_at}
use Rattle.site.specs.Call.{only, when}
use Rattle.packet_answer.specs.declared.Question.{Question}
use Rattle.packet_answer.specs.Taken.{Taken, taken_refuses, not_acked, by_verdict, unexpected, not_ready}
use Rattle.packet_greet.specs.Answered.{answered_plan}
use Rattle.packet_greet.specs.Version.{version_taken}
use Rattle.packet_greet.specs.Watchdog.{watchdog_taken}
use Rattle.packet_alarm.specs.Orders.{alarm_taken, aggregated_taken}
use Rattle.packet_status.specs.StatusReply.{status_taken}
use Rattle.packet_subscribe.specs.Subscribing.{asking_on, subscribing_taken}
use Rattle.packet_command.specs.Commanding.{command_taken}

abbrev pub is_version : Kind → Bool
is_version kind = eqb (kind_number kind) 1

abbrev pub is_watchdog : Kind → Bool
is_watchdog kind = eqb (kind_number kind) 2

abbrev pub is_greeting : Phase → Bool
is_greeting Down = false
is_greeting Greeting = true
is_greeting Beating = false
is_greeting Up = false

-- "Unexpected": a type that is not taken, and Version before ours went out or after theirs was accepted
abbrev pub expected : Link → Kind → Bool
expected k kind = pick (is_version kind) (may_judge_of k) (ltb 0 (kind_number kind))

-- "Not ready": Beating, not Watchdog
abbrev pub unready : Link → Kind → Bool
unready k kind = both (is_beating (phase_of k)) (pick (is_watchdog kind) false true)

abbrev pub unawaited : Link → Identity → Bool
unawaited k id = pick (is_awaited (find_of k.awaited id)) false true

abbrev pub early : Link → Kind → Bool
early k kind = both (is_greeting (phase_of k)) (pick (is_version kind) false true)

-- Ignored: bad JSON and what has no readable mId; an answer to what is not awaited; in Greeting, all but type Version and the two answers
abbrev pub ignored_by : Link → Identity → Class → Bool
ignored_by k id NoClass = true
ignored_by k id Acked = unawaited k id
ignored_by k id NotAcked = unawaited k id
ignored_by k id (Asked v kind) = early k kind

-- Below, p is the packet, q what its call is asked, and id the identity of a reply.

-- a request of a kind that is taken now
abbrev pub kind_taken : Site → Question → List ℕ → Kind → Taken
kind_taken s q p Version = version_taken s q (version_at p)
kind_taken s q p Watchdog = watchdog_taken s q (watchdog_at p)
kind_taken s q p Alarm = alarm_taken s q (alarm_at p)
kind_taken s q p AggregatedStatusRequest = aggregated_taken s q (aggregated_at p)
kind_taken s q p StatusRequest = status_taken s q (status_at Plain p)
kind_taken s q p StatusSubscribe = subscribing_taken true s q (status_at (asking_on (link_at s q.link)) p)
kind_taken s q p StatusUnsubscribe = subscribing_taken false s q (status_at Plain p)
kind_taken s q p CommandRequest = command_taken s q (command_at p)
kind_taken s q p Unexpected = not_acked s q unexpected

-- the reasons in their order: mType, "Unexpected", "Not ready", then those of the kind
abbrev pub expected_taken : Site → Question → List ℕ → Kind → Taken
expected_taken s q p kind =
    pick (expected (link_at s q.link) kind)
    (pick (unready (link_at s q.link) kind) (not_acked s q not_ready) (kind_taken s q p kind))
    (not_acked s q unexpected)

abbrev pub asked_taken : Site → Question → List ℕ → Verdict → Kind → Taken
asked_taken s q p v kind = by_verdict v s q (expected_taken s q p kind)

abbrev pub class_taken : Site → Question → Identity → List ℕ → Class → Taken
class_taken s q answered p NoClass = record { plan = only s; replies = false }
class_taken s q answered p Acked = record { plan = answered_plan s q.link answered true; replies = false }
class_taken s q answered p NotAcked = record { plan = answered_plan s q.link answered false; replies = false }
class_taken s q answered p (Asked v kind) = asked_taken s q p v kind

abbrev pub question_of : ℕ → ℕ → Identity → Head → Question
question_of l time id h = record { link = l; time = time; identity = id; received = h.received; included = h.included }

abbrev pub head_taken : Site → ℕ → ℕ → Identity → List ℕ → Head → Taken
head_taken s l time id p h = class_taken s (question_of l time id h) h.identity p h.class

abbrev pub head_refuses : Site → ℕ → ℕ → Identity → List ℕ → Head → Refusal → Bool
head_refuses s l time id p h =
    when Ignored (ignored_by (link_at s l) h.identity h.class) (taken_refuses s (question_of l time id h) (head_taken s l time id p h))

abbrev pub packet_taken : Site → ℕ → ℕ → Identity → List ℕ → Taken
packet_taken s l time id p = head_taken s l time id p (head_at p)

-- room is the length of the output
abbrev pub packet_refuses : Site → ℕ → ℕ → Identity → ℕ → List ℕ → Refusal → Bool
packet_refuses s l time id room p =
    when NoSuchLink (no_link_at s l)
    (when ShortOutput (ltb room 4096)
    (when LongPacket (ltb 4096 (length p))
    (when BadTime (bad_time_at s time)
    (when WrongPhase (down_at s l) (head_refuses s l time id p (head_at p))))))
