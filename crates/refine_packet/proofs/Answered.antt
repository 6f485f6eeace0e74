-- An answer is the machine's.
-- Assumes nothing.
use Rattle.basis.proofs.Std.{ℕ, ◌<◌, ◌≡◌, subst, ap, ◌∙◌, Bool, false, [], some, pick, bool_cases}
use Rattle.identity.specs.declared.Identity.{Identity}
use Rattle.identity.specs.Read.{Says}
use Rattle.json_value.specs.Grammar.{Json}
use Rattle.awaited.specs.declared.Found.TheVariants.{For}
use Rattle.awaited.specs.Awaited.{find_of}
use Rattle.link.specs.declared.Link.{Link}
use Rattle.link.specs.Steps.{closes_of, answered_of}
use Rattle.site.specs.declared.Site.{Site}
use Rattle.site.specs.Site.{link_at, with_link}
use Rattle.packet_greet.specs.Answered.{settled_for, answered_plan}
use Rattle.machine.specs.Words.{Bytes}
use Rattle.machine.specs.State.{Sent, Awaited, Life, fresh, Machine, life_at, with_life}
use Rattle.machine.specs.State.Sent.{own_version, own_watchdog, no_record, the_record}
use Rattle.machine.specs.Json.{string_of, is_type}
use Rattle.machine.specs.Life.{awaited_by, answered_to}
use Rattle.machine.specs.Effects.{answer_closes, acknowledges, settle, answers, answered}
use Rattle.refine_parts.specs.Same.{Beside}
use Rattle.refine_parts.proofs.Same.{same_acts}
use Rattle.refine_parts.specs.Waits.{purpose_for, found_for}
use Rattle.refine_parts.specs.Life.{SameLife}
use Rattle.refine_parts.proofs.Questions.{questions}
use Rattle.refine_parts.proofs.LifeActs.{acts}
use Rattle.refine_calls.specs.Abstracts.{Abstracts}
use Rattle.refine_calls.specs.Calls.{SamePlan}
use Rattle.refine_calls.proofs.Parts.{items_moved, with_life_lem}
use Rattle.refine_packet.specs.Answered.{SameAnswered}
use Rattle.refine_packet.proofs.Plans.{left, shut}

module _ {beside : Beside} (s : Site) (m : Machine) (h : Abstracts beside s m) (l : ℕ) (b : l < m.setup.links) where
  settled_one : (n : ℕ) → Abstracts beside (settled_for s l (purpose_for (the_record n))) (settle l (the_record n) m)
  settled_one n =
      record {
        items = items_moved h.items;
        last = h.last;
        link_places = h.link_places;
        life_count = h.life_count;
        lives = h.lives;
        pool = (same_acts m.setup.links beside s.site).settle s.pool s.next m h.pool l n;
      }

  -- "Either answer settles a record.", and the link goes on
  goes_on_lem : (x : Sent) (k : Link) (y : Life) → SameLife k y → Abstracts beside (with_link (settled_for s l (purpose_for x)) l k) (with_life l y (settle l x m))
  goes_on_lem own_version k y e = with_life_lem s m h l b k y e
  goes_on_lem own_watchdog k y e = with_life_lem s m h l b k y e
  goes_on_lem no_record k y e = with_life_lem s m h l b k y e
  goes_on_lem (the_record n) k y e = with_life_lem (settled_for s l (purpose_for (the_record n))) (settle l (the_record n) m) (settled_one n) l b k y e

  module _ (o : Bytes) (id : Identity) (is_ack : Bool) (w : Awaited) (says : Says o id.bytes) (found : awaited_by (life_at m l) o ≡ some w) where
    same_closes : closes_of (link_at s l) id is_ack ≡ answer_closes (life_at m l) is_ack w.message
    same_closes = (acts.acts (link_at s l) (life_at m l) (h.lives l)).closes o id is_ack w says found

    same_found : find_of (link_at s l).awaited id ≡ For (purpose_for w.message)
    same_found = (questions.waits (link_at s l) (life_at m l) (h.lives l)).found_by o id says ∙ ap found_for found

    open_life : answer_closes (life_at m l) is_ack w.message ≡ false
        → SameLife (answered_of (link_at s l) id is_ack) (answered_to o (acknowledges is_ack w.message (life_at m l)))
    open_life e =
        subst (λ (c : Bool). SameLife (answered_of (link_at s l) id is_ack) (pick c (fresh false) (answered_to o (acknowledges is_ack w.message (life_at m l))))) e
        ((acts.acts (link_at s l) (life_at m l) (h.lives l)).answered o id is_ack w says found)

    by_answer : SamePlan beside (answered_plan s l id is_ack) (answers l o is_ack m w)
    unfolding answers
    by_answer =
        rw same_closes
        (bool_cases (answer_closes (life_at m l) is_ack w.message)
        (λ e. rw e (shut s m h l b []))
        (λ e. rw (e, same_found)
        (left (with_link (settled_for s l (purpose_for w.message)) l (answered_of (link_at s l) id is_ack))
        (with_life l (answered_to o (acknowledges is_ack w.message (life_at m l))) (settle l w.message m))
        (goes_on_lem w.message (answered_of (link_at s l) id is_ack) (answered_to o (acknowledges is_ack w.message (life_at m l))) (open_life e)) [])))

  by_packet : (j : Json) (id : Identity) (w : Awaited) → Says (string_of "oMId" j) id.bytes → awaited_by (life_at m l) (string_of "oMId" j) ≡ some w
      → SamePlan beside (answered_plan s l id (is_type "MessageAck" j)) (answered l j m)
  unfolding answered
  by_packet j id w says found = rw found (by_answer (string_of "oMId" j) id (is_type "MessageAck" j) w says found)

pub same_answered : SameAnswered
same_answered beside s m h l b j id w = by_packet s m h l b j id w
