-- A packet's plan is sound, and packet and pump write what their plans say.
-- Assumes nothing.
use Rattle.basis.proofs.Std.{ℕ, ◌<◌, ◌≡◌, refl, sym, ◌∙◌, ap, Bool, true, false, true≢false, List, [], ltb, leb, length, ltb-false, leb-false, pick, picked}
use Rattle.answer.specs.declared.Refusal.{Refusal}
use Rattle.answer.specs.declared.Refusal.TheVariants.{ShortOutput}
use Rattle.answer.specs.declared.Report.{Report}
use Rattle.answer.specs.declared.Answer.TheVariants.{Done}
use Rattle.answer.specs.Order.{in_order, None}
use Rattle.answer.specs.Order.None.{more}
use Rattle.identity.specs.declared.Identity.{Identity}
use Rattle.identity.specs.Read.{SixteenBytes}
use Rattle.read_head.specs.declared.Verdict.{Verdict}
use Rattle.read_head.specs.declared.Verdict.TheVariants.{Good, Missing, Bad}
use Rattle.read_head.specs.declared.Kind.{Kind}
use Rattle.read_head.specs.declared.Kind.TheVariants.{Version, Watchdog, Alarm, AggregatedStatusRequest, StatusRequest, StatusSubscribe, StatusUnsubscribe, CommandRequest, Unexpected}
use Rattle.read_head.specs.declared.Class.{Class}
use Rattle.read_head.specs.declared.Class.TheVariants.{Ignored as NoClass, Acked, NotAcked, Asked}
use Rattle.read_head.specs.Head.{head_at}
use Rattle.read_head.specs.Small.{watchdog_at, aggregated_at, alarm_at}
use Rattle.read_lists.specs.Version.{version_at}
use Rattle.read_lists.specs.declared.Asking.TheVariants.{Plain}
use Rattle.read_lists.specs.Status.{status_at}
use Rattle.read_commands.specs.Command.{command_at}
use Rattle.write_message.specs.Message.{Message}
use Rattle.write_laws.specs.Formed.{Received}
use Rattle.site.specs.declared.Site.{Site}
use Rattle.site.specs.declared.Step.{Step}
use Rattle.site.specs.Site.{no_link_at, link_at}
use Rattle.site.specs.Call.{Plan, Gives, written_to}
use Rattle.call_laws.specs.Numbers.{conditions}
use Rattle.call_laws.proofs.Given.{numbers}
use Rattle.call_laws.proofs.Stepped.{steps}
use Rattle.packet_subscribe.specs.Subscribing.{asking_on}
use Rattle.packet_answer.specs.declared.Question.{Question}
use Rattle.packet_answer.specs.Taken.{Taken, not_acked, missing_element, bad_value, unexpected, not_ready}
use Rattle.call_pump.specs.Pump.{pump_refuses, pump_plan}
use Rattle.call_packet.specs.Packet.{expected, unready, kind_taken, expected_taken, asked_taken, class_taken, question_of, packet_taken, packet_refuses}
use Rattle.call_laws.specs.Sound.{SoundAt, Sound}
use Rattle.call_laws.specs.SoundPlans.{SoundPlan}
use Rattle.call_laws.specs.SoundPlans.Reworked.{same}
use Rattle.call_laws.proofs.SoundKept.{a_link, in_time, at_time}
use Rattle.call_laws.proofs.SoundPackets.{kept as parts}
use Rattle.call_laws.specs.Formedness.{Sendable, Wrote}
use Rattle.call_laws.proofs.Plans.{plans, no_message}
use Rattle.call_laws.proofs.Heads.{received}
use Rattle.call_laws.proofs.Outputs.{outputs}
use Rattle.call_laws.specs.PacketLaws.{PacketLaws}

-- a configured link
configured : (s : Site) (l : ℕ) → no_link_at s l ≡ false → l < s.linkcount
configured s l e = by (ltb l 4) e
  where
    by : (t : Bool) → pick t (leb s.linkcount l) true ≡ false → l < s.linkcount
    by true g = leb-false s.linkcount l g
    by false g = absurd (true≢false g)

long_enough : {c : Refusal → Bool} → None c in_order → c ShortOutput ≡ false
long_enough (more a (more b (more h n))) = h

-- ---- a sound plan
module _ (s : Site) (q : Question) (h : SoundAt q.time s) (linked : q.link < s.linkcount) (p : List ℕ) where
  abbrev Keeps : Taken → Type 0
  Keeps t = SoundPlan s q.time t.plan

  kind_keeps : (k : Kind) → Keeps (kind_taken s q p k)
  kind_keeps Version = parts.version s q h (version_at p)
  kind_keeps Watchdog = parts.watchdog s q h (watchdog_at p)
  kind_keeps Alarm = parts.alarm s q h (alarm_at p)
  kind_keeps AggregatedStatusRequest = parts.aggregated s q h (aggregated_at p)
  kind_keeps StatusRequest = parts.status s q h (status_at Plain p)
  kind_keeps StatusSubscribe = parts.subscribing s q h linked true (status_at (asking_on (link_at s q.link)) p)
  kind_keeps StatusUnsubscribe = parts.subscribing s q h linked false (status_at Plain p)
  kind_keeps CommandRequest = parts.command s q h (command_at p)
  kind_keeps Unexpected = parts.refused s q h unexpected

  expected_keeps : (k : Kind) → Keeps (expected_taken s q p k)
  expected_keeps k =
      picked Keeps (expected (link_at s q.link) k) _ (not_acked s q unexpected)
      (λ e. picked Keeps (unready (link_at s q.link) k) (not_acked s q not_ready) (kind_taken s q p k) (λ u. parts.refused s q h not_ready) (λ u. kind_keeps k))
      (λ e. parts.refused s q h unexpected)

  asked_keeps : (v : Verdict) (k : Kind) → Keeps (asked_taken s q p v k)
  asked_keeps Good k = expected_keeps k
  asked_keeps Missing k = parts.refused s q h missing_element
  asked_keeps Bad k = parts.refused s q h bad_value

  class_keeps : (answered : Identity) (c : Class) → Keeps (class_taken s q answered p c)
  class_keeps answered NoClass = record { site = h; number = refl; pool = same; issued = tt }
  class_keeps answered Acked = parts.answered s q.time h q.link answered true
  class_keeps answered NotAcked = parts.answered s q.time h q.link answered false
  class_keeps answered (Asked v k) = asked_keeps v k

-- ---- well-formed messages
module _ (s : Site) (q : Question) (h : SoundAt q.time s) (sixteen : SixteenBytes q.identity.bytes) (p : List ℕ) where
  abbrev Sends : Taken → Type 0
  Sends t = Sendable t.plan.messages

  module _ (r : Received q.received.bytes) where
    kind_sends : (k : Kind) → Sends (kind_taken s q p k)
    kind_sends Version = plans.version s q r (version_at p)
    kind_sends Watchdog = plans.watchdog s q r (watchdog_at p)
    kind_sends Alarm = plans.alarm s q h sixteen r (alarm_at p)
    kind_sends AggregatedStatusRequest = plans.aggregated s q h sixteen r (aggregated_at p)
    kind_sends StatusRequest = plans.status s q h sixteen r p
    kind_sends StatusSubscribe = plans.subscribing true s q r (status_at (asking_on (link_at s q.link)) p)
    kind_sends StatusUnsubscribe = plans.subscribing false s q r (status_at Plain p)
    kind_sends CommandRequest = plans.command s q h sixteen r p
    kind_sends Unexpected = plans.refused s q r unexpected tt

    expected_sends : (k : Kind) → Sends (expected_taken s q p k)
    expected_sends k =
        picked Sends (expected (link_at s q.link) k) _ (not_acked s q unexpected)
        (λ e. picked Sends (unready (link_at s q.link) k) (not_acked s q not_ready) (kind_taken s q p k) (λ u. plans.refused s q r not_ready tt) (λ u. kind_sends k))
        (λ e. plans.refused s q r unexpected tt)

    asked_sends : (v : Verdict) (k : Kind) → Sends (asked_taken s q p v k)
    asked_sends Good k = expected_sends k
    asked_sends Missing k = plans.refused s q r missing_element tt
    asked_sends Bad k = plans.refused s q r bad_value tt

  none_sent : (ms : List Message) → ms ≡ [] → Sendable ms
  none_sent ms e = rw e no_message

  class_sends : (answered : Identity) (c : Class) → ((v : Verdict) (k : Kind) → c ≡ Asked v k → Received q.received.bytes) → Sends (class_taken s q answered p c)
  class_sends answered NoClass r = no_message
  class_sends answered Acked r = none_sent _ (plans.answered s q.link answered true)
  class_sends answered NotAcked r = none_sent _ (plans.answered s q.link answered false)
  class_sends answered (Asked v k) r = asked_sends (r v k refl) v k

packet_sends : (time : ℕ) (s : Site) → SoundAt time s → (l : ℕ) (id : Identity) → SixteenBytes id.bytes → (p : List ℕ) → Sendable (packet_taken s l time id p).plan.messages
packet_sends time s h l id sixteen p = class_sends s (question_of l time id (head_at p)) h sixteen p (head_at p).identity (head_at p).class (received p)

-- ---- the calls
pub packet_plan : (s : Site) → Sound s → (l time : ℕ) (id : Identity) (p : List ℕ) (room : ℕ) → None (conditions (packet_refuses s l time id room p) (packet_taken s l time id p).plan) in_order
    → SoundPlan s time (packet_taken s l time id p).plan
packet_plan s h l time id p room n =
    class_keeps s (question_of l time id (head_at p)) (at_time s time h (in_time n)) (configured s l (a_link n)) p (head_at p).identity (head_at p).class

-- where a call is done, none of its conditions applies
free : (s : Site) (time : ℕ) (refuses : Refusal → Bool) (p : Plan) (xs ys : List ℕ) (r : Step) (d : Report)
    → Gives s time refuses p xs ys r → r.answer ≡ Done d → None (conditions refuses p) in_order
free s time refuses p xs ys r d g done =
    let end = (written_to xs p.messages).end in
    ((numbers refuses p end).done_only_so d (sym (steps s time refuses p end).answer ∙ sym (ap (λ (x : Step). x.answer) g.step) ∙ done)).0

packet_writes : (s : Site) → Sound s → (l time : ℕ) (id : Identity) → SixteenBytes id.bytes → (p xs ys : List ℕ) (r : Step) (d : Report)
    → Gives s time (packet_refuses s l time id (length xs) p) (packet_taken s l time id p).plan xs ys r → r.answer ≡ Done d
    → Wrote (packet_taken s l time id p).plan.messages xs ys d
packet_writes s h l time id sixteen p xs ys r d g done =
    let refuses = packet_refuses s l time id (length xs) p in
    let plan = (packet_taken s l time id p).plan in
    let n = free s time refuses plan xs ys r d g done in
    outputs s time refuses plan xs ys r d g done (ltb-false (length xs) 4096 (long_enough n)) (packet_sends time s (at_time s time h (in_time n)) l id sixteen p)

pump_writes : (s : Site) → Sound s → (l time : ℕ) (id : Identity) → SixteenBytes id.bytes → (xs ys : List ℕ) (r : Step) (d : Report)
    → Gives s time (pump_refuses s l time id (length xs)) (pump_plan s l time id) xs ys r → r.answer ≡ Done d
    → Wrote (pump_plan s l time id).messages xs ys d
pump_writes s h l time id sixteen xs ys r d g done =
    let refuses = pump_refuses s l time id (length xs) in
    let plan = pump_plan s l time id in
    let n = free s time refuses plan xs ys r d g done in
    outputs s time refuses plan xs ys r d g done (ltb-false (length xs) 4096 (long_enough n)) (plans.pump time s (at_time s time h (in_time n)) l id sixteen)

pub kept : PacketLaws
kept = record { sends = packet_sends; packet_writes = packet_writes; pump_writes = pump_writes }
