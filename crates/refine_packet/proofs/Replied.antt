-- A packet that is acknowledged and replied to, or "Busy"; or whose answer carries its acknowledgement.
-- Assumes nothing.
use Rattle.basis.proofs.Std.{ℕ, ◌<◌, ◌≡◌, refl, sym, ap, subst, ◌∙◌, Bool, true, false, not, List, [], ◌∷◌, some, none, leb, length, leb-false, pick}
use Rattle.identity.specs.declared.Identity.{Identity}
use Rattle.identity.specs.Read.{SixteenBytes}
use Rattle.awaited.specs.declared.Purpose.TheVariants.{Other}
use Rattle.link.specs.Steps.{message_out_of}
use Rattle.json_value.specs.Grammar.{Json}
use Rattle.write_message.specs.declared.Told.{Told}
use Rattle.write_message.specs.Message.{Message, Status}
use Rattle.write_message.specs.Message.Message.{ack, statuses, included}
use Rattle.site.specs.declared.Site.{Site}
use Rattle.site.specs.Site.{link_at}
use Rattle.site.specs.Call.{Command}
use Rattle.packet_answer.specs.Taken.{not_acked, handing, replied, responded, unless_busy, answering, busy}
use Rattle.machine.specs.State.{Command as MachineCommand, Machine, life_at, with_life, handing as handing_of, only}
use Rattle.machine.specs.State.Sent.{no_record}
use Rattle.machine.specs.Json.{string_of}
use Rattle.machine.specs.Life.{is_up, awaiting}
use Rattle.machine.specs.Answers.{wants_reply, replies_at_once}
use Rattle.machine.specs.Messages.{included_message}
use Rattle.machine.specs.Effects.{carried_out, reply_message, replying}
use Rattle.demand_held.proofs.Lists.Each.{no_more}
use Rattle.refine_read.specs.Reasons.{busy_if}
use Rattle.refine_parts.specs.Same.{Beside}
use Rattle.refine_parts.proofs.Questions.{questions}
use Rattle.refine_parts.proofs.LifeActs.{acts}
use Rattle.refine_calls.specs.Abstracts.{Abstracts}
use Rattle.refine_calls.specs.Calls.{SameCommands, SamePlan}
use Rattle.refine_calls.specs.Calls.SameCommands.{no_command}
use Rattle.refine_calls.proofs.Parts.{with_life_lem}
use Rattle.refine_packet.specs.Taken.{SameTaken, question_on}
use Rattle.refine_packet.proofs.Refused.{reasons}

replied_so : (m : Machine) (l t : ℕ) (id : List ℕ) (j : Json) (ds : List MachineCommand) → replies_at_once j ≡ false → wants_reply m l j ≡ true
    → replying l t id j (handing_of ds m [] [] [] none)
    ≡ handing_of ds (with_life l (awaiting id t no_record (life_at m l)) m) [] (ack (string_of "mId" j) ∷ reply_message m t id j ∷ []) [] none
unfolding replying
replied_so m l t id j ds o w = rw (o, w)

responded_so : (m : Machine) (l t : ℕ) (id : List ℕ) (j : Json) (ds : List MachineCommand) → replies_at_once j ≡ true
    → replying l t id j (handing_of ds m [] [] [] none) ≡ handing_of ds m [] (included_message m t j ∷ []) [] none
unfolding replying
responded_so m l t id j ds o = rw o

-- a request of a component by either type: what it does, and that it is told these entries
pub record Asks (m : Machine) (l t : ℕ) (id : List ℕ) (j : Json) (early : Bool) (kind : Told) (entries : List Status) (ds : List MachineCommand) : Type 0 where
  pub at_once : replies_at_once j ≡ early
  pub replies : wants_reply m l j ≡ not early
  pub does : carried_out l t j m ≡ handing_of ds m [] [] [] none
  pub told : pick early (included_message m t j) (reply_message m t id j)
      ≡ pick early (included kind (string_of "mId" j) (string_of "cId" j) t entries) (statuses kind id (string_of "cId" j) t entries)

module _ {beside : Beside} (s : Site) (m : Machine) (h : Abstracts beside s m) (l : ℕ) (b : l < m.setup.links) (up : is_up (life_at m l) ≡ true) (t : ℕ) (id : Identity) (v : SixteenBytes id.bytes) (j : Json) where
  -- with commands that are handed over, and without
  hand : (x : Message) (cs : List Command) (ds : List MachineCommand) → SameCommands cs ds → carried_out l t j m ≡ handing_of ds m [] [] [] none → replies_at_once j ≡ false
      → wants_reply m l j ≡ true → x ≡ reply_message m t id.bytes j
      → SameTaken beside s m l t id j (unless_busy s (question_on l t id j) (handing s (question_on l t id j) x cs)) (busy_if m l true)
  hand x cs ds same c o w e =
      subst (λ (f : Bool). SameTaken beside s m l t id j (pick f (not_acked s (question_on l t id j) busy) (handing s (question_on l t id j) x cs)) (busy_if m l true))
      (sym (questions.waits (link_at s l) (life_at m l) (h.lives l)).full) (by (leb 16 (length (life_at m l).awaited)) refl)
    where
      by : (f : Bool) → leb 16 (length (life_at m l).awaited) ≡ f
          → SameTaken beside s m l t id j (pick f (not_acked s (question_on l t id j) busy) (handing s (question_on l t id j) x cs)) (pick f (some "Busy") none)
      by true f = (reasons s m h l b t id j).is_busy
      by false f =
          record {
            replies = sym w;
            next = refl;
            site = refl;
            plan = λ u.
                subst (SamePlan beside (handing s (question_on l t id j) x cs).plan) (sym (ap (replying l t id.bytes j) c ∙ replied_so m l t id.bytes j ds o w))
                (record {
                  leaves = with_life_lem s m h l b (message_out_of (link_at s l) id t Other) (awaiting id.bytes t no_record (life_at m l))
                      (((acts.acts (link_at s l) (life_at m l) (h.lives l)
                      ).sends id t (record { bytes = v; unawaited = u refl; room = leb-false 16 (length (life_at m l).awaited) f })).other no_record up);
                  issued = record { issued = refl; told = no_more };
                  for_links = no_more;
                  messages = ap (λ (y : Message). ack (string_of "mId" j) ∷ y ∷ []) e;
                  closed = refl;
                  hint = refl;
                  commands = same;
                });
          }

  pub reply : (x : Message) → carried_out l t j m ≡ only m → replies_at_once j ≡ false → wants_reply m l j ≡ true → x ≡ reply_message m t id.bytes j
      → SameTaken beside s m l t id j (unless_busy s (question_on l t id j) (replied s (question_on l t id j) x)) (busy_if m l true)
  reply x c o w e = hand x [] [] no_command c o w e

  -- .. or at once, which is never "Busy"
  pub answer : (n : Bool) (kind : Told) (component : List ℕ) (entries told : List Status) (cs : List Command) (ds : List MachineCommand)
      → Asks m l t id.bytes j n kind told ds → component ≡ string_of "cId" j → entries ≡ told → SameCommands cs ds
      → SameTaken beside s m l t id j (answering s (question_on l t id j) kind component entries cs) (busy_if m l (not n))
  answer n kind component entries told cs ds a ec ee same = rw (a.at_once, ec, ee) (by n a)
    where
      by : (n : Bool) → Asks m l t id.bytes j n kind told ds
          → SameTaken beside s m l t id j
          (pick n (responded s (included kind (string_of "mId" j) (string_of "cId" j) t told) cs)
          (unless_busy s (question_on l t id j) (handing s (question_on l t id j) (statuses kind id.bytes (string_of "cId" j) t told) cs)))
          (busy_if m l (not n))
      by false a = hand (statuses kind id.bytes (string_of "cId" j) t told) cs ds same a.does a.at_once a.replies (sym a.told)
      by true a =
          record {
            replies = sym a.replies;
            next = refl;
            site = refl;
            plan = λ u.
                subst (SamePlan beside (responded s (included kind (string_of "mId" j) (string_of "cId" j) t told) cs).plan)
                (sym (ap (replying l t id.bytes j) a.does ∙ responded_so m l t id.bytes j ds a.at_once))
                (record {
                  leaves = h;
                  issued = record { issued = refl; told = no_more };
                  for_links = no_more;
                  messages = ap (λ (y : Message). y ∷ []) (sym a.told);
                  closed = refl;
                  hint = refl;
                  commands = same;
                });
          }
