-- An answer to an awaited message comes to what it comes to in the machine.
-- Assumes nothing.
use Rattle.basis.proofs.Std.{ℕ, ◌<◌, ◌≡◌, refl, sym, ap, subst, ◌∙◌, Bool, true, false, not, [], some, replicate, pick, both, both_of}
use Rattle.answer.specs.Given.Hint.{none as no_hint}
use Rattle.identity.specs.declared.Identity.{Identity}
use Rattle.identity.specs.Read.{Says, read_identity}
use Rattle.identity.proofs.Read.{answers}
use Rattle.awaited.specs.declared.Purpose.TheVariants.{Version, Watchdog, Entry, Other}
use Rattle.awaited.specs.declared.Found.{Found}
use Rattle.awaited.specs.declared.Found.TheVariants.{For, Nothing}
use Rattle.awaited.specs.Awaited.{find_of}
use Rattle.link.specs.Steps.{closes_of, answered_of}
use Rattle.json_value.specs.Grammar.{Json}
use Rattle.read_head.specs.declared.Class.TheVariants.{Acked, NotAcked}
use Rattle.read_head.specs.declared.Head.{Head}
use Rattle.read_head.specs.Head.{ignored}
use Rattle.site.specs.declared.Site.{Site}
use Rattle.site.specs.Site.{link_at, with_link, close_at, mask_of}
use Rattle.site.specs.Call.{Plan, only}
use Rattle.packet_answer.specs.Taken.{Taken}
use Rattle.packet_greet.specs.Answered.{settled, answered_plan}
use Rattle.call_packet.specs.Packet.{class_taken, question_of, head_taken}
use Rattle.machine.specs.Words.{Bytes, maybe, is_some}
use Rattle.machine.specs.State.{Awaited, Machine, life_at}
use Rattle.machine.specs.Json.{string_of, element_is, is_type, is_identity}
use Rattle.machine.specs.Life.{awaited_by}
use Rattle.machine.specs.Answers.{is_answer, wants_reply, reason_of}
use Rattle.machine.specs.Effects.{answered, refuses, carried_out, replying, receives}
use Rattle.refine_parts.specs.Same.{Beside}
use Rattle.refine_read.specs.Head.{answer_class, answer_of, request_of, head_of}
use Rattle.refine_read.proofs.Identity.{readable}
use Rattle.refine_calls.specs.Abstracts.{Abstracts}
use Rattle.refine_calls.specs.Calls.{SamePlan}
use Rattle.refine_packet.proofs.Answered.{same_answered}
use Rattle.refine_packet.specs.Heard.{SameHeard}

-- an answer issues no records
stays : (s : Site) (l : ℕ) (k : Identity) (a : Bool) → ((answered_plan s l k a).site.next ≡ s.next) × ((answered_plan s l k a).site.site ≡ s.site)
stays s l k a = by (closes_of (link_at s l) k a) (find_of (link_at s l).awaited k)
  where
    plan : Bool → Found → Plan
    plan c o = pick c (record { site = close_at s l; issued = []; messages = []; closed = mask_of l; hint = no_hint; commands = [] }) (only (with_link (settled s l o) l (answered_of (link_at s l) k a)))

    by : (c : Bool) (o : Found) → ((plan c o).site.next ≡ s.next) × ((plan c o).site.site ≡ s.site)
    by true o = (refl, refl)
    by false Nothing = (refl, refl)
    by false (For Version) = (refl, refl)
    by false (For Watchdog) = (refl, refl)
    by false (For (Entry q)) = (refl, refl)
    by false (For Other) = (refl, refl)

receives_answer : (l t : ℕ) (id : Bytes) (m : Machine) (j : Json) → is_answer j ≡ true → receives l t id m j ≡ answered l j m
unfolding receives
receives_answer l t id m j e = ap (λ (c : Bool). pick c (answered l j m) (maybe (replying l t id j (carried_out l t j m)) (refuses l j m) (reason_of m l j))) e

module _ {beside : Beside} (s : Site) (m : Machine) (h : Abstracts beside s m) (l : ℕ) (b : l < m.setup.links) (t : ℕ) (id : Identity) (p : Bytes) (j : Json) (is : is_answer j ≡ true) where
  abbrev to : Identity
  to = (read_identity (string_of "oMId" j)).id

  abbrev answer_head : Head
  answer_head = record { class = answer_class j; received = record { bytes = replicate 36 0 }; identity = to; included = false }

  head_is : element_is "mType" "rSMsg" j ≡ true → is_identity (string_of "oMId" j) ≡ true → head_of j ≡ answer_head
  head_is e f = ap (λ (c : Bool). pick c (answer_of j) (request_of j)) is ∙ ap (λ (c : Bool). pick c answer_head ignored) (both_of e f)

  class_is : (c : Bool) → class_taken s (question_of l t id answer_head) to p (pick c Acked NotAcked) ≡ record { plan = answered_plan s l to c; replies = false }
  class_is true = refl
  class_is false = refl

  says : is_identity (string_of "oMId" j) ≡ true → Says (string_of "oMId" j) to.bytes
  says f = (answers (string_of "oMId" j)).accepted (sym (readable (string_of "oMId" j)) ∙ f)

  planned : (w : Awaited) → is_identity (string_of "oMId" j) ≡ true → awaited_by (life_at m l) (string_of "oMId" j) ≡ some w
      → SameHeard beside s m l t id (record { plan = answered_plan s l to (is_type "MessageAck" j); replies = false }) (some j)
  planned w f g =
      record {
        replies = sym (ap (λ (c : Bool). both (not c) (both (not (is_some (reason_of m l j))) (wants_reply m l j))) is);
        next = (stays s l to (is_type "MessageAck" j)).0;
        site = (stays s l to (is_type "MessageAck" j)).1;
        plan = λ u.
            subst (SamePlan beside (answered_plan s l to (is_type "MessageAck" j))) (sym (receives_answer l t id.bytes m j is))
            (same_answered beside s m h l b j to w (says f) g);
      }

  pub heard_answer : (w : Awaited) → element_is "mType" "rSMsg" j ≡ true → is_identity (string_of "oMId" j) ≡ true → awaited_by (life_at m l) (string_of "oMId" j) ≡ some w
      → SameHeard beside s m l t id (head_taken s l t id p (head_of j)) (some j)
  heard_answer w e f g =
      subst (λ (x : Head). SameHeard beside s m l t id (head_taken s l t id p x) (some j)) (sym (head_is e f))
      (subst (λ (x : Taken). SameHeard beside s m l t id x (some j)) (sym (class_is (is_type "MessageAck" j))) (planned w f g))
