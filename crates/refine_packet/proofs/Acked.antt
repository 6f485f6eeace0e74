-- A packet that is acknowledged and not replied to.
-- Assumes nothing.
use Rattle.basis.proofs.Std.{ℕ, ◌<◌, ◌≡◌, refl, sym, ap, subst, ◌∙◌, Bool, false, List, [], ◌∷◌, Option, some, none, arith, eqb, ne_eqb, pick}
use Rattle.answer.specs.Given.{Hint}
use Rattle.identity.specs.declared.Identity.{Identity}
use Rattle.entry.specs.declared.Entry.{Entry}
use Rattle.link.specs.declared.Role.TheVariants.{Primary, Secondary}
use Rattle.json_value.specs.Grammar.{Json}
use Rattle.write_message.specs.Message.Message.{ack}
use Rattle.site.specs.declared.Site.{Site}
use Rattle.site.specs.Site.{role_of}
use Rattle.packet_answer.specs.Taken.{acked}
use Rattle.machine.specs.Words.{Bytes, or_else, is_number}
use Rattle.machine.specs.State.{Machine, Effect, handing}
use Rattle.machine.specs.Json.{string_of}
use Rattle.machine.specs.Answers.{wants_reply, replies_at_once}
use Rattle.machine.specs.Effects.{carried_out, replying}
use Rattle.refine_parts.specs.Same.{Beside}
use Rattle.refine_parts.specs.Questions.{role_in}
use Rattle.refine_calls.specs.Abstracts.{Abstracts}
use Rattle.refine_calls.specs.Calls.{SamePlan}
use Rattle.refine_packet.specs.Taken.{SameTaken, question_on}

-- the link's role
pub same_role : {beside : Beside} (s : Site) (m : Machine) → Abstracts beside s m → (l : ℕ) → l < m.setup.links → role_of s l ≡ role_in m l
same_role s m h l b = ap (λ (q : ℕ). pick (eqb l q) Primary Secondary) h.items.setup.primary ∙ by m.setup.primary
  where
    by : (o : Option ℕ) → pick (eqb l (or_else 65535 o)) Primary Secondary ≡ pick (is_number l o) Primary Secondary
    by none = ap (λ (c : Bool). pick c Primary Secondary) (ne_eqb l 65535 (λ e. omega (arith, h.items.setup.few, b, e)))
    by (some q) = refl

unreplied : (l t : ℕ) (id : Bytes) (j : Json) (e : Effect) → replies_at_once j ≡ false → wants_reply e.leaves l j ≡ false
    → replying l t id j e ≡ handing e.commands e.leaves e.issues (ack (string_of "mId" j) ∷ []) e.closed e.hint
unfolding replying
unreplied l t id j e o w = rw (o, w)

module _ {beside : Beside} (s : Site) (m : Machine) (l t : ℕ) (id : Identity) (j : Json) where
  -- e is what it does besides
  pub only_acked : (after : Site) (es : List Entry) (hint : Hint) (e : Effect) → carried_out l t j m ≡ e
      → replies_at_once j ≡ false → wants_reply m l j ≡ false → wants_reply e.leaves l j ≡ false → after.next ≡ s.next → after.site ≡ s.site
      → SamePlan beside (acked after es (question_on l t id j) hint).plan (handing e.commands e.leaves e.issues (ack (string_of "mId" j) ∷ []) e.closed e.hint)
      → SameTaken beside s m l t id j (acked after es (question_on l t id j) hint) none
  only_acked after es hint e c o w v n i p =
      record {
        replies = sym w;
        next = n;
        site = i;
        plan = λ u. subst (SamePlan beside (acked after es (question_on l t id j) hint).plan) (sym (ap (replying l t id.bytes j) c ∙ unreplied l t id.bytes j e o v)) p;
      }
