-- A packet that is no answer comes to what it comes to in the machine: the reasons in their order, then by its type.
-- Assumes nothing.
use Rattle.basis.proofs.Std.{ℕ, ◌<◌, String, ◌≡◌, refl, sym, ap, ◌∙◌, Bool, true, false, not, Option, some, pick, both, text, untrue, not_both}
use Rattle.identity.specs.declared.Identity.{Identity}
use Rattle.identity.specs.Read.{SixteenBytes}
use Rattle.json_value.specs.Grammar.{Json}
use Rattle.link.specs.Phase.{phase_of, is_beating as is_beating_in}
use Rattle.link.specs.Steps.{may_judge_of}
use Rattle.read_head.specs.declared.Kind.{Kind}
use Rattle.read_head.specs.declared.Kind.TheVariants.{Version, Watchdog, Alarm, AggregatedStatusRequest, StatusRequest, StatusSubscribe, StatusUnsubscribe, CommandRequest, Unexpected}
use Rattle.site.specs.declared.Site.{Site}
use Rattle.site.specs.Site.{link_at}
use Rattle.packet_answer.specs.Taken.{Taken, not_acked, unexpected, not_ready}
use Rattle.call_packet.specs.Packet.{expected, unready, kind_taken, expected_taken, asked_taken}
use Rattle.machine.specs.Words.{Bytes}
use Rattle.machine.specs.State.{Machine, life_at}
use Rattle.machine.specs.Json.{read_packet, string_at, is_type}
use Rattle.machine.specs.Life.{is_older, is_over, is_greeting, is_beating}
use Rattle.machine.specs.Answers.{is_unexpected}
use Rattle.refine_read.specs.Verdicts.{verdict_in}
use Rattle.refine_read.specs.Head.{kind_of, m_type_of, Typed, version, watchdog, alarm, aggregated_request, status_request, status_subscribe, status_unsubscribe, command_request, not_taken}
use Rattle.refine_read.specs.Reasons.{by_verdict, further_reason, reason_by}
use Rattle.refine_read.proofs.Kept as Reads
use Rattle.refine_parts.specs.Same.{Beside}
use Rattle.refine_parts.proofs.Questions.{questions}
use Rattle.refine_calls.specs.Abstracts.{Abstracts}
use Rattle.refine_packet.specs.Taken.{SameTaken, question_on}
use Rattle.refine_packet.proofs.Refused.{reasons, by_verdict_lem}
use Rattle.refine_packet.specs.Greeted.{Judges, Beats}
use Rattle.refine_packet.proofs.Version.{same_version}
use Rattle.refine_packet.proofs.Watchdog.{same_watchdog}
use Rattle.refine_packet.specs.Ordered.{IsUp}
use Rattle.refine_packet.proofs.Alarm.{same_alarm_lem}
use Rattle.refine_packet.proofs.Aggregated.{same_aggregated}
use Rattle.refine_packet.proofs.Statuses.{same_statuses}
use Rattle.refine_packet.proofs.Commands.{same_command}

-- ---- the phases: connected, not Greeting, not Beating
beats_is : (c v w : Bool) → not c ≡ false → both c (not v) ≡ false → pick (both c (both v (not w))) true (both c (both v w)) ≡ true
beats_is true true true d g = refl
beats_is true true false d g = refl
beats_is true false w d g = untrue (sym g)
beats_is false v w d g = untrue (sym d)

up_is : (c v w : Bool) → not c ≡ false → both c (not v) ≡ false → both c (both v (not w)) ≡ false → both c (both v w) ≡ true
up_is true true true d g r = refl
up_is true true false d g r = untrue (sym r)
up_is true false w d g r = untrue (sym g)
up_is false v w d g r = untrue (sym d)

judges_sent : (a b : Bool) → pick (not a) true b ≡ false → a ≡ true
judges_sent true b e = refl
judges_sent false b e = untrue (sym e)

judges_taken : (a b : Bool) → pick (not a) true b ≡ false → b ≡ false
judges_taken true b e = e
judges_taken false b e = untrue (sym e)

module _ {beside : Beside} (s : Site) (m : Machine) (h : Abstracts beside s m) (l : ℕ) (b : l < m.setup.links) (t : ℕ) (id : Identity) (v : SixteenBytes id.bytes) (p : Bytes) (j : Json) (read : read_packet p ≡ some j) (down : not (life_at m l).connected ≡ false) where
  abbrev behind : Option String
  behind = by_verdict (verdict_in (is_older (life_at m l)) j) (further_reason m l j)

  -- "Unexpected", "Not ready", then those of the type
  stage : (e u r n : Bool) {x : Taken} {o : Option String} → e ≡ not u → (u ≡ false → r ≡ n) → (u ≡ false → n ≡ false → SameTaken beside s m l t id j x o)
      → SameTaken beside s m l t id j (pick e (pick r (not_acked s (question_on l t id j) not_ready) x) (not_acked s (question_on l t id j) unexpected))
      (pick u (some "Unexpected") (pick n (some "Not ready") o))
  stage e true r n a c f = rw a (reasons s m h l b t id j).is_unexpected_lem
  stage e false r true a c f = rw (a, c refl) (reasons s m h l b t id j).not_ready_lem
  stage e false r false a c f = rw (a, c refl) (f refl refl)

  ups : is_greeting (life_at m l) ≡ false → is_beating (life_at m l) ≡ false → IsUp (life_at m l)
  ups g r = up_is (life_at m l).connected (is_over (life_at m l).versions) (is_over (life_at m l).watchdogs) down g r

  beats : is_greeting (life_at m l) ≡ false → Beats (life_at m l)
  beats g = beats_is (life_at m l).connected (is_over (life_at m l).versions) (is_over (life_at m l).watchdogs) down g

  abbrev Same : Kind → Type 0
  Same k =
      SameTaken beside s m l t id j (expected_taken s (question_on l t id j) p k)
      (pick (is_unexpected (life_at m l) j) (some "Unexpected") (pick (both (is_beating (life_at m l)) (not (is_type "Watchdog" j))) (some "Not ready") behind))

  abbrev staged : (k : Kind) → expected (link_at s l) k ≡ not (is_unexpected (life_at m l) j)
      → (is_unexpected (life_at m l) j ≡ false → unready (link_at s l) k ≡ both (is_beating (life_at m l)) (not (is_type "Watchdog" j)))
      → (is_unexpected (life_at m l) j ≡ false → both (is_beating (life_at m l)) (not (is_type "Watchdog" j)) ≡ false → SameTaken beside s m l t id j (kind_taken s (question_on l t id j) p k) behind)
      → Same k
  staged k = stage (expected (link_at s l) k) (is_unexpected (life_at m l) j) (unready (link_at s l) k) (both (is_beating (life_at m l)) (not (is_type "Watchdog" j)))

  same_beating : is_beating_in (phase_of (link_at s l)) ≡ is_beating (life_at m l)
  same_beating = (questions.phases (link_at s l) (life_at m l) (h.lives l)).beating

  and_true : (a : Bool) → both a true ≡ a
  and_true true = refl
  and_true false = refl

  -- it is not Version: the link is not Greeting
  late : both (is_greeting (life_at m l)) true ≡ false → is_greeting (life_at m l) ≡ false
  late g = sym (and_true (is_greeting (life_at m l))) ∙ g

  idle : both (is_beating (life_at m l)) true ≡ false → is_beating (life_at m l) ≡ false
  idle g = sym (and_true (is_beating (life_at m l))) ∙ g

  module _ (ty : string_at "type" j ≡ some (text "Version")) where
    unexpected_is : is_unexpected (life_at m l) j ≡ pick (not (life_at m l).versions.sent) true (life_at m l).versions.taken
    unexpected_is = rw ty

    judged_if : may_judge_of (link_at s l) ≡ not (is_unexpected (life_at m l) j)
    unfolding may_judge_of
    judged_if = rw ((h.lives l).versions.is_sent, (h.lives l).versions.is_taken) (by (life_at m l).versions.sent (life_at m l).versions.taken) ∙ ap not (sym unexpected_is)
      where
        by : (a c : Bool) → pick c false a ≡ not (pick (not a) true c)
        by true true = refl
        by true false = refl
        by false true = refl
        by false false = refl

    judges : is_unexpected (life_at m l) j ≡ false → Judges (life_at m l)
    judges e =
        record {
          sent = judges_sent (life_at m l).versions.sent (life_at m l).versions.taken (sym unexpected_is ∙ e);
          not_taken = judges_taken (life_at m l).versions.sent (life_at m l).versions.taken (sym unexpected_is ∙ e);
        }

    of_version : Same Version
    of_version = staged Version judged_if (λ e. rw (same_beating, ty)) (λ e n. same_version beside s m h l b (judges e) t id v p j read ty)

  -- number 1 ignores in Greeting all but type Version
  module _ (heard : both (is_greeting (life_at m l)) (not (is_type "Version" j)) ≡ false) where
    of_watchdog : string_at "type" j ≡ some (text "Watchdog") → Same Watchdog
    of_watchdog ty =
        let g : both (is_greeting (life_at m l)) true ≡ false = rw ty at heard in
        staged Watchdog (rw ty) (λ e. rw (same_beating, ty)) (λ e n. same_watchdog beside s m h l b (beats (late g)) t id v p j read ty)

    -- any other type
    module _ (no_version : is_type "Version" j ≡ false) (no_watchdog : is_type "Watchdog" j ≡ false) where
      is_up_lem : both (is_beating (life_at m l)) (not (is_type "Watchdog" j)) ≡ false → IsUp (life_at m l)
      is_up_lem n =
          ups (late (ap (λ (c : Bool). both (is_greeting (life_at m l)) (not c)) (sym no_version) ∙ heard))
          (idle (ap (λ (c : Bool). both (is_beating (life_at m l)) (not c)) (sym no_watchdog) ∙ n))

    by_type : (k : Kind) → Typed j k → Same k
    by_type k (version ty) = of_version ty
    by_type k (watchdog ty) = of_watchdog ty
    by_type k (alarm ty) =
        staged Alarm (rw ty) (λ e. rw (same_beating, ty)) (λ e n. same_alarm_lem beside s m h l b (is_up_lem (rw ty) (rw ty) n) t id v p j read ty)
    by_type k (aggregated_request ty) =
        staged AggregatedStatusRequest (rw ty) (λ e. rw (same_beating, ty)) (λ e n. same_aggregated beside s m h l b (is_up_lem (rw ty) (rw ty) n) t id v p j read ty)
    by_type k (status_request false ty) =
        staged StatusRequest (rw ty) (λ e. rw (same_beating, ty)) (λ e n. same_statuses.status_request false beside s m h l b (is_up_lem (rw ty) (rw ty) n) t id v p j read ty)
    by_type k (status_request true ty) =
        staged StatusRequest (rw ty) (λ e. rw (same_beating, ty)) (λ e n. same_statuses.status_request true beside s m h l b (is_up_lem (rw ty) (rw ty) n) t id v p j read ty)
    by_type k (status_subscribe ty) =
        staged StatusSubscribe (rw ty) (λ e. rw (same_beating, ty)) (λ e n. same_statuses.status_subscribe beside s m h l b (is_up_lem (rw ty) (rw ty) n) t id v p j read ty)
    by_type k (status_unsubscribe ty) =
        staged StatusUnsubscribe (rw ty) (λ e. rw (same_beating, ty)) (λ e n. same_statuses.status_unsubscribe beside s m h l b (is_up_lem (rw ty) (rw ty) n) t id v p j read ty)
    by_type k (command_request false ty) =
        staged CommandRequest (rw ty) (λ e. rw (same_beating, ty)) (λ e n. same_command false beside s m h l b (is_up_lem (rw ty) (rw ty) n) t id v p j read ty)
    by_type k (command_request true ty) =
        staged CommandRequest (rw ty) (λ e. rw (same_beating, ty)) (λ e n. same_command true beside s m h l b (is_up_lem (rw ty) (rw ty) n) t id v p j read ty)
    by_type k (not_taken f) =
        let u : is_unexpected (life_at m l) j ≡ true =
        ap (λ (c : Bool). pick (not c) true (both (is_type "Version" j) (pick (not (life_at m l).versions.sent) true (life_at m l).versions.taken))) f in
        staged Unexpected (ap not (sym u)) (λ e. not_both u e) (λ e n. not_both u e)

    pub asked : SameTaken beside s m l t id j (asked_taken s (question_on l t id j) p (m_type_of j) (kind_of j)) (reason_by m l j)
    asked =
        by_verdict_lem s m h l b t id j (m_type_of j) (expected_taken s (question_on l t id j) p (kind_of j)) _
        (λ g. by_type (kind_of j) ((Reads.kept).typed j))
