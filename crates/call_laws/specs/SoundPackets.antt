-- What every kind of packet comes to is a sound plan, whatever the packet says.
-- Statements only: their proof is `kept`.
-- Assumes nothing.
use Rattle.std.specs.Prelude.{ℕ, ◌<◌, Bool}
use Rattle.identity.specs.declared.Identity.{Identity}
use Rattle.read_head.specs.declared.GotTime.{GotTime}
use Rattle.read_head.specs.declared.GotLabel.{GotLabel}
use Rattle.read_head.specs.declared.AlarmFields.{AlarmFields}
use Rattle.read_lists.specs.declared.VersionFields.{VersionFields}
use Rattle.read_lists.specs.declared.StatusFields.{StatusFields}
use Rattle.read_commands.specs.declared.CommandFields.{CommandFields}
use Rattle.site.specs.declared.Site.{Site}
use Rattle.packet_answer.specs.declared.Question.{Question}
use Rattle.packet_answer.specs.Taken.{not_acked}
use Rattle.packet_greet.specs.Answered.{answered_plan}
use Rattle.packet_greet.specs.Version.{version_taken}
use Rattle.packet_greet.specs.Watchdog.{watchdog_taken}
use Rattle.packet_subscribe.specs.Subscribing.{subscribing_taken}
use Rattle.packet_alarm.specs.Orders.{alarm_taken, aggregated_taken}
use Rattle.packet_status.specs.StatusReply.{status_taken}
use Rattle.packet_command.specs.Commanding.{command_taken}
use Rattle.call_laws.specs.Sound.{SoundAt}
use Rattle.call_laws.specs.SoundPlans.{SoundPlan}

pub record Packets : Type 0 where
  -- an answer to a message of ours
  pub answered : (s : Site) (time : ℕ) → SoundAt time s → (l : ℕ) (id : Identity) (acknowledged : Bool) → SoundPlan s time (answered_plan s l id acknowledged)
  -- a reason alone
  pub refused : (s : Site) (q : Question) → SoundAt q.time s → (reason : ℕ) → SoundPlan s q.time (not_acked s q reason).plan
  pub version : (s : Site) (q : Question) → SoundAt q.time s → (f : VersionFields) → SoundPlan s q.time (version_taken s q f).plan
  pub watchdog : (s : Site) (q : Question) → SoundAt q.time s → (f : GotTime) → SoundPlan s q.time (watchdog_taken s q f).plan
  pub alarm : (s : Site) (q : Question) → SoundAt q.time s → (f : AlarmFields) → SoundPlan s q.time (alarm_taken s q f).plan
  pub aggregated : (s : Site) (q : Question) → SoundAt q.time s → (f : GotLabel) → SoundPlan s q.time (aggregated_taken s q f).plan
  pub status : (s : Site) (q : Question) → SoundAt q.time s → (f : StatusFields) → SoundPlan s q.time (status_taken s q f).plan
  pub command : (s : Site) (q : Question) → SoundAt q.time s → (f : CommandFields) → SoundPlan s q.time (command_taken s q f).plan
  -- on a configured link
  pub subscribing : (s : Site) (q : Question) → SoundAt q.time s → q.link < s.linkcount → (subscribing : Bool) (f : StatusFields)
      → SoundPlan s q.time (subscribing_taken subscribing s q f).plan
