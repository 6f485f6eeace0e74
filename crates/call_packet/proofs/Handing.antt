-- Which packets hand commands over: of a CommandRequest, of either form, those that it names, of every other packet none.
-- Assumes nothing.
use Rattle.basis.proofs.Std.{ℕ, Bool, true, false, List, [], picked}
use Rattle.identity.specs.declared.Identity.{Identity}
use Rattle.link.specs.Steps.{closes_of, full_of}
use Rattle.read_head.specs.declared.Verdict.{Verdict}
use Rattle.read_head.specs.declared.Verdict.TheVariants.{Good, Missing, Bad}
use Rattle.read_head.specs.declared.Kind.{Kind}
use Rattle.read_head.specs.declared.Kind.TheVariants.{Version, Watchdog, Alarm, AggregatedStatusRequest, StatusRequest, StatusSubscribe, StatusUnsubscribe, CommandRequest, Unexpected}
use Rattle.read_head.specs.declared.Class.{Class}
use Rattle.read_head.specs.declared.Class.TheVariants.{Ignored, Acked, NotAcked, Asked}
use Rattle.read_head.specs.declared.Order.{Order}
use Rattle.read_head.specs.declared.Order.TheVariants.{Request, Acknowledge, Suspend, Resume}
use Rattle.read_head.specs.declared.AlarmFields.{AlarmFields}
use Rattle.read_head.specs.declared.GotLabel.{GotLabel}
use Rattle.read_head.specs.Head.{head_at}
use Rattle.read_head.specs.Small.{watchdog_at, aggregated_at, alarm_at}
use Rattle.read_lists.specs.declared.StatusFields.{StatusFields}
use Rattle.read_lists.specs.Version.{version_at}
use Rattle.read_lists.specs.declared.Asking.TheVariants.{Plain}
use Rattle.read_lists.specs.Status.{status_at}
use Rattle.read_versions.specs.declared.Judged.{Judged}
use Rattle.read_versions.specs.declared.Judged.TheVariants.{Chosen, RsmpVersion, SiteId, SxlVersion}
use Rattle.read_versions.specs.Judge.{judge}
use Rattle.read_commands.specs.Command.{command_at}
use Rattle.write_message.specs.declared.Told.{Told}
use Rattle.write_message.specs.Message.{Status}
use Rattle.site.specs.declared.Site.{Site}
use Rattle.link.specs.declared.Role.{Role}
use Rattle.link.specs.declared.Role.TheVariants.{Primary, Secondary}
use Rattle.site.specs.Site.{link_at, role_of}
use Rattle.site.specs.Call.{Command, Plan}
use Rattle.packet_answer.specs.declared.Question.{Question}
use Rattle.packet_answer.specs.Taken.{Taken, not_acked, answering, by_verdict, unless_busy, not_ready, busy}
use Rattle.packet_lookup.specs.declared.Sought.{Sought}
use Rattle.packet_lookup.specs.declared.Sought.TheVariants.{Is, Nothing}
use Rattle.packet_lookup.specs.declared.SoughtAlarm.{SoughtAlarm}
use Rattle.packet_lookup.specs.declared.SoughtAlarm.TheVariants.{Alarm as TheAlarm, NoComponent, NoAlarm}
use Rattle.packet_lookup.specs.Sought.{component_sought, alarm_sought, all_statuses}
use Rattle.packet_greet.specs.Version.{own, version_judged}
use Rattle.packet_greet.specs.Watchdog.{beat}
use Rattle.packet_alarm.specs.Orders.{is_zero, change_taken, request_by, request_taken, ordered, ordered_of, found_taken, alarm_taken, aggregated_of, aggregated_taken}
use Rattle.packet_status.specs.StatusReply.{passes, status_taken}
use Rattle.packet_subscribe.specs.Subscribing.{changed, judged, asked, asking_on, subscribing_taken}
use Rattle.packet_command.specs.Commanding.{keeps_ranges, passes as all_pass, command_taken}
use Rattle.packet_command.specs.Handing.{commands_in}
use Rattle.call_packet.specs.Packet.{expected, unready, kind_taken, expected_taken, class_taken, question_of, packet_taken}

-- P of what is handed over
module _ (P : List Command → Type 0) (nothing : P []) where
  abbrev Hands : Taken → Type 0
  Hands x = P x.plan.commands

  by_verdict_lem : (v : Verdict) (s : Site) (q : Question) (x : Taken) → Hands x → Hands (by_verdict v s q x)
  by_verdict_lem Good s q x h = h
  by_verdict_lem Missing s q x h = nothing
  by_verdict_lem Bad s q x h = nothing

  unless_busy_lem : (s : Site) (q : Question) (x : Taken) → Hands x → Hands (unless_busy s q x)
  unless_busy_lem s q x h = picked Hands (full_of (link_at s q.link)) (not_acked s q busy) x (λ e. nothing) (λ e. h)

  told : (s : Site) (q : Question) (kind : Told) (component : List ℕ) (entries : List Status) (commands : List Command) → P commands
      → Hands (answering s q kind component entries commands)
  told s q kind component entries commands h = picked Hands q.included _ _ (λ e. h) (λ e. unless_busy_lem s q _ h)

  version : (s : Site) (q : Question) (j : Judged) → Hands (version_judged s q j)
  version s q (Chosen v) = nothing
  version s q RsmpVersion = nothing
  version s q SiteId = nothing
  version s q SxlVersion = nothing

  module _ (s : Site) (q : Question) where
    request : (k : ℕ) (r : Role) → Hands (request_by s q k r)
    request k Primary = unless_busy_lem s q _ nothing
    request k Secondary = nothing

    order : (k : ℕ) (o : Order) → Hands (ordered s q k o)
    unfolding request_taken change_taken
    order k Request = request k (role_of s q.link)
    order k Acknowledge = nothing
    order k Suspend = nothing
    order k Resume = nothing

    alarm : (o : Order) (a : SoughtAlarm) → Hands (ordered_of s q o a)
    alarm o (TheAlarm k) = order k o
    alarm o NoComponent = nothing
    alarm o NoAlarm = nothing

    alarm_taken_lem : (f : AlarmFields) → Hands (alarm_taken s q f)
    unfolding alarm_taken found_taken
    alarm_taken_lem f = by_verdict_lem f.verdict s q _ (alarm f.order (alarm_sought s.table f.component f.code))

    aggregated : (k : Sought) → Hands (aggregated_of s q k)
    aggregated k = picked Hands (is_zero k) _ _ (λ e. unless_busy_lem s q _ nothing) (λ e. nothing)

    aggregated_taken_lem : (f : GotLabel) → Hands (aggregated_taken s q f)
    unfolding aggregated_taken
    aggregated_taken_lem f = by_verdict_lem f.verdict s q _ (aggregated (component_sought s.table f.label))

    status_taken_lem : (f : StatusFields) → Hands (status_taken s q f)
    unfolding status_taken
    status_taken_lem f =
        by_verdict_lem f.verdict s q _
        (picked Hands (passes s f (component_sought s.table f.component)) _ _ (λ e. told s q _ _ _ [] nothing) (λ e. nothing))

    subscribing : (b : Bool) (f : StatusFields) (k : Sought) → Hands (asked b s q f k)
    unfolding judged changed
    subscribing b f (Is c) = picked Hands (all_statuses s.table c f.entries f.count) _ _ (λ e. nothing) (λ e. nothing)
    subscribing b f Nothing = nothing

    subscribing_taken_lem : (b : Bool) (f : StatusFields) → Hands (subscribing_taken b s q f)
    unfolding subscribing_taken
    subscribing_taken_lem b f = by_verdict_lem f.verdict s q _ (subscribing b f (component_sought s.table f.component))

    module _ (p : List ℕ) (some : P (commands_in s.table p)) where
      command_taken_lem : Hands (command_taken s q (command_at p))
      unfolding command_taken commands_in
      command_taken_lem =
          let f = command_at p in
          let k = component_sought s.table f.component in
          by_verdict_lem f.verdict s q _
          (picked Hands (keeps_ranges s.table f k) _ _
          (λ e. picked Hands (all_pass s.table f k) _ _ (λ d. told s q _ _ _ _ some) (λ d. nothing))
          (λ e. nothing))

      kind_taken_lem : (k : Kind) → Hands (kind_taken s q p k)
      kind_taken_lem Version = by_verdict_lem (version_at p).verdict s q _ (version s q (judge (own s) (version_at p).offer))
      kind_taken_lem Watchdog = by_verdict_lem (watchdog_at p).verdict s q (beat s q (watchdog_at p)) nothing
      kind_taken_lem Alarm = alarm_taken_lem (alarm_at p)
      kind_taken_lem AggregatedStatusRequest = aggregated_taken_lem (aggregated_at p)
      kind_taken_lem StatusRequest = status_taken_lem (status_at Plain p)
      kind_taken_lem StatusSubscribe = subscribing_taken_lem true (status_at (asking_on (link_at s q.link)) p)
      kind_taken_lem StatusUnsubscribe = subscribing_taken_lem false (status_at Plain p)
      kind_taken_lem CommandRequest = command_taken_lem
      kind_taken_lem Unexpected = nothing

      expected_taken_lem : (k : Kind) → Hands (expected_taken s q p k)
      expected_taken_lem k =
          picked Hands (expected (link_at s q.link) k) _ _
          (λ e. picked Hands (unready (link_at s q.link) k) (not_acked s q not_ready) (kind_taken s q p k) (λ d. nothing) (λ d. kind_taken_lem k))
          (λ e. nothing)

      class_taken_lem : (answered : Identity) (c : Class) → Hands (class_taken s q answered p c)
      class_taken_lem answered Ignored = nothing
      class_taken_lem answered Acked = picked (λ (x : Plan). P x.commands) (closes_of (link_at s q.link) answered true) _ _ (λ e. nothing) (λ e. nothing)
      class_taken_lem answered NotAcked = picked (λ (x : Plan). P x.commands) (closes_of (link_at s q.link) answered false) _ _ (λ e. nothing) (λ e. nothing)
      class_taken_lem answered (Asked v k) = by_verdict_lem v s q _ (expected_taken_lem k)

-- so what holds of none and of those that the packet names holds of what a packet hands over
pub packet_hands : (P : List Command → Type 0) (s : Site) (l time : ℕ) (id : Identity) (p : List ℕ)
    → P []
    → P (commands_in s.table p)
    → P (packet_taken s l time id p).plan.commands
packet_hands P s l time id p none some = class_taken_lem P none s (question_of l time id (head_at p)) p some (head_at p).identity (head_at p).class
