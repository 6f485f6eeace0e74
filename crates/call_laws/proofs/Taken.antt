-- What every kind of packet but the subscribing ones comes to is a sound plan.
-- Assumes nothing.
use Rattle.basis.proofs.Std.{ℕ, ◌/◌, ◌%◌, ◌<◌, ◌≡◌, refl, Bool, List, [], ltb-true, both, picked, both_true}
use Rattle.identity.specs.declared.Identity.{Identity}
use Rattle.label.specs.Label.{text_of}
use Rattle.awaited.specs.declared.Purpose.{Purpose}
use Rattle.awaited.specs.declared.Purpose.TheVariants.{Version, Watchdog, Entry, Other}
use Rattle.awaited.specs.declared.Found.{Found}
use Rattle.awaited.specs.declared.Found.TheVariants.{For, Nothing}
use Rattle.awaited.specs.Awaited.{find_of}
use Rattle.pool.specs.Pool.{settle_of}
use Rattle.link.specs.declared.Role.{Role}
use Rattle.link.specs.declared.Role.TheVariants.{Primary, Secondary}
use Rattle.link.specs.Steps.{message_out_of, full_of, closes_of, answered_of, version_accepted_of, watchdog_taken_of}
use Rattle.alarm.specs.declared.Order.{Order as Change}
use Rattle.alarm.specs.Alarm.{order_of}
use Rattle.alarm.specs.Issued.{issued_of}
use Rattle.write_message.specs.declared.Told.{Told}
use Rattle.write_message.specs.declared.Told.TheVariants.{Response, Command as CommandResponse}
use Rattle.write_message.specs.Message.{Message, Status}
use Rattle.read_head.specs.declared.Verdict.{Verdict}
use Rattle.read_head.specs.declared.Verdict.TheVariants.{Good, Missing, Bad}
use Rattle.read_head.specs.declared.Order.{Order}
use Rattle.read_head.specs.declared.Order.TheVariants.{Request, Acknowledge, Suspend, Resume}
use Rattle.read_head.specs.declared.AlarmFields.{AlarmFields}
use Rattle.read_head.specs.declared.GotLabel.{GotLabel}
use Rattle.read_head.specs.declared.GotTime.{GotTime}
use Rattle.read_lists.specs.declared.VersionFields.{VersionFields}
use Rattle.read_lists.specs.declared.StatusFields.{StatusFields}
use Rattle.read_commands.specs.declared.CommandFields.{CommandFields}
use Rattle.read_versions.specs.declared.Judged.{Judged}
use Rattle.read_versions.specs.declared.Judged.TheVariants.{Chosen, RsmpVersion, SiteId, SxlVersion}
use Rattle.read_versions.specs.Judge.{judge}
use Rattle.packet_lookup.specs.declared.SoughtAlarm.{SoughtAlarm}
use Rattle.packet_lookup.specs.declared.SoughtAlarm.TheVariants.{Alarm, NoComponent, NoAlarm}
use Rattle.packet_lookup.specs.Sought.{component_sought, alarm_sought}
use Rattle.send_message.specs.Sending.{alarm_message, aggregated_message}
use Rattle.site.specs.declared.Site.{Site}
use Rattle.site.specs.Site.{role_of, link_at, has_primary, owner_of}
use Rattle.site.specs.Parts.{alarm_at}
use Rattle.site.specs.Call.{Command}
use Rattle.packet_answer.specs.declared.Question.{Question}
use Rattle.packet_answer.specs.Taken.{Taken, not_acked, closing, handing, replied, by_verdict, unless_busy, answering, bad_value, rsmp_version, site_id, sxl_version, unknown_component, unknown_alarm, unknown_status, unknown_command, busy}
use Rattle.packet_greet.specs.Answered.{settled_for, settled, answered_plan}
use Rattle.packet_greet.specs.Version.{own, version_judged, version_taken}
use Rattle.packet_greet.specs.Watchdog.{beat, watchdog_taken}
use Rattle.packet_alarm.specs.Orders.{change_taken, is_zero, request_by, request_taken, ordered, ordered_of, found_taken, alarm_taken, aggregated_of, aggregated_taken}
use Rattle.packet_status.specs.StatusReply.{passes, told, requested_of, status_taken}
use Rattle.packet_command.specs.Commanding.{keeps_ranges, commands_of, ordered_of as commanded_of, command_taken, passes as all_there, told as told_commands}
use Rattle.call_laws.specs.Sound.{EntryOf, HeldOf, SoundAt}
use Rattle.call_laws.specs.SoundPlans.{Reworked, SoundPlan}
use Rattle.call_laws.specs.SoundPlans.Reworked.{same, settles, unmarks}
use Rattle.call_laws.proofs.Held.{held_settle}
use Rattle.call_laws.proofs.SoundEntries.{each_if}
use Rattle.call_laws.proofs.Parts.{with_pool_lem, with_link_lem, with_alarm_lem, close}
use Rattle.call_laws.proofs.Alarms.{order_sound, alarm_record_lem}
use Rattle.call_laws.proofs.Found.{AlarmBelow, alarm_below}

-- ---- an answer
module _ (s : Site) (time : ℕ) (h : SoundAt time s) where
  settled_for_lem : (l : ℕ) (p : Purpose) → SoundAt time (settled_for s l p)
  settled_for_lem l Version = h
  settled_for_lem l Watchdog = h
  settled_for_lem l (Entry q) = with_pool_lem time s h (settle_of s.pool (owner_of s l) q) (held_settle (HeldOf s time) s.pool (owner_of s l) q h.held)
  settled_for_lem l Other = h

  settled_sound : (l : ℕ) (f : Found) → SoundAt time (settled s l f)
  settled_sound l Nothing = h
  settled_sound l (For p) = settled_for_lem l p

  settled_number : (l : ℕ) (f : Found) → (settled s l f).site ≡ s.site
  settled_number l Nothing = refl
  settled_number l (For Version) = refl
  settled_number l (For Watchdog) = refl
  settled_number l (For (Entry q)) = refl
  settled_number l (For Other) = refl

  settled_pool : (l : ℕ) (f : Found) → Reworked s.pool (settled s l f).pool
  settled_pool l Nothing = same
  settled_pool l (For Version) = same
  settled_pool l (For Watchdog) = same
  settled_pool l (For (Entry q)) = settles (owner_of s l) q same
  settled_pool l (For Other) = same

  pub answered_plan_lem : (l : ℕ) (id : Identity) (acknowledged : Bool) → SoundPlan s time (answered_plan s l id acknowledged)
  answered_plan_lem l id acknowledged =
      let f = find_of (link_at s l).awaited id in
      picked (SoundPlan s time) (closes_of (link_at s l) id acknowledged) _ _
      (λ e. record { site = close time s l h; number = refl; pool = unmarks (owner_of s l) same; issued = tt })
      (λ e. record { site = with_link_lem time (settled s l f) (settled_sound l f) l (answered_of (link_at s l) id acknowledged); number = settled_number l f; pool = settled_pool l f; issued = tt })

-- ---- what a packet asks for
module _ (s : Site) (q : Question) (h : SoundAt q.time s) where
  abbrev Good-plan : Taken → Type 0
  Good-plan t = SoundPlan s q.time t.plan

  pub not_acked_lem : (reason : ℕ) → SoundPlan s q.time (not_acked s q reason).plan
  not_acked_lem reason = record { site = h; number = refl; pool = same; issued = tt }

  closing_sound : (reason : ℕ) → SoundPlan s q.time (closing s q reason).plan
  closing_sound reason = record { site = close q.time s q.link h; number = refl; pool = unmarks (owner_of s q.link) same; issued = tt }

  handing_sound : (m : Message) (commands : List Command) → SoundPlan s q.time (handing s q m commands).plan
  handing_sound m commands = record { site = with_link_lem q.time s h q.link (message_out_of (link_at s q.link) q.identity q.time Other); number = refl; pool = same; issued = tt }

  replied_sound : (m : Message) → SoundPlan s q.time (replied s q m).plan
  replied_sound m = handing_sound m []

  pub by_verdict_lem : (v : Verdict) (t : Taken) → Good-plan t → SoundPlan s q.time (by_verdict v s q t).plan
  by_verdict_lem Good t g = g
  by_verdict_lem Missing t g = record { site = h; number = refl; pool = same; issued = tt }
  by_verdict_lem Bad t g = record { site = h; number = refl; pool = same; issued = tt }

  unless_busy_lem : (t : Taken) → Good-plan t → SoundPlan s q.time (unless_busy s q t).plan
  unless_busy_lem t g = picked Good-plan (full_of (link_at s q.link)) (not_acked s q busy) t (λ e. not_acked_lem busy) (λ e. g)

  answering_sound : (kind : Told) (component : List ℕ) (entries : List Status) (commands : List Command) → SoundPlan s q.time (answering s q kind component entries commands).plan
  answering_sound kind component entries commands =
      picked Good-plan q.included _ _ (λ e. record { site = h; number = refl; pool = same; issued = tt }) (λ e. unless_busy_lem (handing s q _ commands) (handing_sound _ commands))

  -- ---- greeting
  judged_sound : (j : Judged) → SoundPlan s q.time (version_judged s q j).plan
  judged_sound (Chosen v) =
      record { site = with_link_lem q.time s h q.link (version_accepted_of (link_at s q.link) (v / 65536) (v / 256 % 256) (v % 256)); number = refl; pool = same; issued = tt }
  judged_sound RsmpVersion = closing_sound rsmp_version
  judged_sound SiteId = closing_sound site_id
  judged_sound SxlVersion = closing_sound sxl_version

  pub version_sound : (f : VersionFields) → SoundPlan s q.time (version_taken s q f).plan
  version_sound f = by_verdict_lem f.verdict (version_judged s q (judge (own s) f.offer)) (judged_sound (judge (own s) f.offer))

  pub watchdog_sound : (f : GotTime) → SoundPlan s q.time (watchdog_taken s q f).plan
  watchdog_sound f =
      by_verdict_lem f.verdict (beat s q f) (record { site = with_link_lem q.time s h q.link (watchdog_taken_of (link_at s q.link)); number = refl; pool = same; issued = tt })

  -- ---- orders
  change_sound : (k : ℕ) → k < s.table.alarmcount → (order : Change) → SoundPlan s q.time (change_taken s q k order).plan
  unfolding change_taken
  change_sound k i order =
      let c = order_of (alarm_at s k) order q.time in
      let a = order_sound q.time (alarm_at s k) (h.alarms.each k) order in
      record {
        site = with_alarm_lem q.time s h k c.alarm a;
        number = refl;
        pool = same;
        issued =
            each_if (EntryOf s q.time) (both c.records (has_primary s)) (issued_of c.alarm (owner_of s s.primary) k)
            (λ t. alarm_record_lem s.linkcount s.primary s.period s.table h.start s.site h.site q.time h.last c.alarm a k
            (ltb-true s.primary s.linkcount (both_true c.records (has_primary s) t).1) i);
      }

  request_sound : (k : ℕ) (r : Role) → SoundPlan s q.time (request_by s q k r).plan
  request_sound k Primary =
      unless_busy_lem (replied s q (alarm_message s q.identity.bytes k)) (replied_sound (alarm_message s q.identity.bytes k))
  request_sound k Secondary = record { site = h; number = refl; pool = same; issued = tt }

  ordered_sound : (k : ℕ) → k < s.table.alarmcount → (o : Order) → SoundPlan s q.time (ordered s q k o).plan
  unfolding request_taken
  ordered_sound k i Request = request_sound k (role_of s q.link)
  ordered_sound k i Acknowledge = change_sound k i _
  ordered_sound k i Suspend = change_sound k i _
  ordered_sound k i Resume = change_sound k i _

  ordered_of_lem : (o : Order) (x : SoughtAlarm) → AlarmBelow s.table.alarmcount x → SoundPlan s q.time (ordered_of s q o x).plan
  ordered_of_lem o (Alarm k) i = ordered_sound k i o
  ordered_of_lem o NoComponent i = not_acked_lem unknown_component
  ordered_of_lem o NoAlarm i = not_acked_lem unknown_alarm

  pub alarm_sound : (f : AlarmFields) → SoundPlan s q.time (alarm_taken s q f).plan
  unfolding alarm_taken found_taken
  alarm_sound f =
      by_verdict_lem f.verdict (ordered_of s q f.order (alarm_sought s.table f.component f.code))
      (ordered_of_lem f.order (alarm_sought s.table f.component f.code)
      (alarm_below s.linkcount s.primary s.period s.table h.start f.component f.code))

  pub aggregated_sound : (f : GotLabel) → SoundPlan s q.time (aggregated_taken s q f).plan
  unfolding aggregated_taken
  aggregated_sound f =
      let x = component_sought s.table f.label in
      let m = aggregated_message s q.identity.bytes in
      by_verdict_lem f.verdict (aggregated_of s q x)
      (picked Good-plan (is_zero x) (unless_busy s q (replied s q m)) (not_acked s q unknown_component)
      (λ e. unless_busy_lem (replied s q m) (replied_sound m)) (λ e. not_acked_lem unknown_component))

  pub status_sound : (f : StatusFields) → SoundPlan s q.time (status_taken s q f).plan
  unfolding status_taken
  status_sound f =
      let x = component_sought s.table f.component in
      by_verdict_lem f.verdict (requested_of s q f x)
      (picked Good-plan (passes s f x) _ (not_acked s q unknown_status)
      (λ e. answering_sound Response (text_of f.component) (told s x f) []) (λ e. not_acked_lem unknown_status))

  pub command_sound : (f : CommandFields) → SoundPlan s q.time (command_taken s q f).plan
  unfolding command_taken
  command_sound f =
      let x = component_sought s.table f.component in
      by_verdict_lem f.verdict (commanded_of s q f x)
      (picked Good-plan (keeps_ranges s.table f x) _ (not_acked s q bad_value)
      (λ e. picked Good-plan (all_there s.table f x) _ (not_acked s q unknown_command)
      (λ e. answering_sound CommandResponse (text_of f.component) (told_commands x f) (commands_of s.table f x))
      (λ e. not_acked_lem unknown_command))
      (λ e. not_acked_lem bad_value))
