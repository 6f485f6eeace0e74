-- Packet is the machine's.
-- Assumes nothing.
use Rattle.basis.proofs.Std.{ℕ, ◌<◌, ◌≡◌, refl, sym, ap, subst, ◌∙◌, Bool, true, false, not, [], Option, some, none, replicate, pick, both, bool_cases, untrue, both_first, both_second}
use Rattle.identity.specs.declared.Identity.{Identity}
use Rattle.identity.specs.Read.{SixteenBytes, read_identity}
use Rattle.identity.specs.Version.{identity_of}
use Rattle.json_value.specs.Grammar.{Json}
use Rattle.read_head.specs.declared.Class.TheVariants.{Asked}
use Rattle.read_head.specs.declared.Head.{Head}
use Rattle.read_head.specs.Head.{ignored}
use Rattle.site.specs.declared.Site.{Site}
use Rattle.packet_answer.specs.Taken.{Taken}
use Rattle.call_packet.specs.Packet.{asked_taken, head_taken, packet_taken}
use Rattle.machine.specs.Words.{Bytes, ◌and◌, ◌or◌, maybe, is_some, or_else, first_that}
use Rattle.machine.specs.State.{Awaited, Machine, life_at}
use Rattle.machine.specs.Json.{read_packet, string_at, string_of, element_is, is_type, is_identity}
use Rattle.machine.specs.Life.{is_greeting, awaited_by}
use Rattle.machine.specs.Answers.{is_answer, awaited_here, is_readable, is_ignored, wants_reply, replies_at_once, reason_of}
use Rattle.machine.specs.Effects.{answered, receives}
use Rattle.machine.specs.Step.{is_down_at}
use Rattle.refine_parts.specs.Same.{Beside}
use Rattle.refine_read.specs.Head.{kind_of, m_type_of, answer_of, request_of, head_of}
use Rattle.refine_read.specs.Ignored.{is_of}
use Rattle.refine_read.proofs.Kept as Reads
use Rattle.refine_calls.specs.Abstracts.{Abstracts}
use Rattle.refine_calls.specs.Calls.{SamePlan}
use Rattle.refine_calls.proofs.Identity.{own_sixteen}
use Rattle.refine_packet.specs.Taken.{SameTaken, effect_by, question_on}
use Rattle.refine_packet.specs.Heard.{SameHeard}
use Rattle.refine_packet.specs.Packet.{PacketCalls}
use Rattle.refine_packet.specs.Packet.OfPacket.{packets}
use Rattle.refine_packet.proofs.Ignored.{sixteen}
use Rattle.refine_packet.proofs.Numbers.{packet_same}
use Rattle.refine_packet.proofs.Answers.{heard_answer}
use Rattle.refine_packet.proofs.Asked.{asked}

not-false : (b : Bool) → not b ≡ false → b ≡ true
not-false true e = refl
not-false false e = sym e

or_first : (a b : Bool) → pick a true b ≡ false → a ≡ false
or_first true b e = e
or_first false b e = refl

or_second : (a b : Bool) → pick a true b ≡ false → b ≡ false
or_second true b e = untrue (sym e)
or_second false b e = e

receives_other : (l t : ℕ) (id : Bytes) (m : Machine) (j : Json) → is_answer j ≡ false → receives l t id m j ≡ effect_by m l t id j (reason_of m l j)
unfolding receives
receives_other l t id m j e = ap (λ (c : Bool). pick c (answered l j m) (effect_by m l t id j (reason_of m l j))) e

module _ {beside : Beside} (s : Site) (m : Machine) (h : Abstracts beside s m) (l : ℕ) (b : l < m.setup.links) (t : ℕ) (id : Identity) (v : SixteenBytes id.bytes) (p : Bytes) (down : is_down_at m l ≡ false) where
  abbrev Heard : Head → Option Json → Type 0
  Heard x o = SameHeard beside s m l t id (head_taken s l t id p x) o

  module _ (j : Json) where
    -- an answer to an awaited message
    awaited_one : (o : Option Bytes) → maybe false (λ x. is_some (awaited_by (life_at m l) x)) o ≡ true → is_some (awaited_by (life_at m l) (or_else [] o)) ≡ true
    awaited_one none e = untrue e
    awaited_one (some x) e = e

    is_identity_lem : (w : Awaited) → awaited_by (life_at m l) (string_of "oMId" j) ≡ some w → is_identity (string_of "oMId" j) ≡ true
    is_identity_lem w e = by (is_identity (string_of "oMId" j)) (ap is_some (sym ((Reads.kept).awaited (life_at m l) (string_of "oMId" j) (sixteen _ (life_at m l) (h.lives l))) ∙ e))
      where
        by : (c : Bool) → is_some (pick c (first_that (is_of (read_identity (string_of "oMId" j)).id.bytes) (life_at m l).awaited) none) ≡ true → c ≡ true
        by true q = refl
        by false q = q

    answering : is_answer j ≡ true → element_is "mType" "rSMsg" j ≡ true → (o : Option Awaited) → awaited_by (life_at m l) (string_of "oMId" j) ≡ o → is_some o ≡ true → Heard (head_of j) (some j)
    answering is e none a q = untrue q
    answering is e (some w) a q = heard_answer s m h l b t id p j is w e (is_identity_lem w a) a

    -- any other
    abbrev asked_head : Head
    asked_head = record { class = Asked (m_type_of j) (kind_of j); received = record { bytes = string_of "mId" j }; identity = record { bytes = replicate 16 0 }; included = replies_at_once j }

    head_is : is_answer j ≡ false → is_readable j ≡ true → head_of j ≡ asked_head
    head_is e f = ap (λ (c : Bool). pick c (answer_of j) (request_of j)) e ∙ ap (λ (c : Bool). pick c asked_head ignored) f

    taken_heard : (x : Taken) → is_answer j ≡ false → SameTaken beside s m l t id j x (reason_of m l j) → SameHeard beside s m l t id x (some j)
    taken_heard x e same =
        record {
          replies = same.replies ∙ sym (ap (λ (c : Bool). both (not c) (both (not (is_some (reason_of m l j))) (wants_reply m l j))) e);
          next = same.next;
          site = same.site;
          plan = λ u. subst (SamePlan beside x.plan) (sym (receives_other l t id.bytes m j e)) (same.plan u);
        }

    asking : read_packet p ≡ some j → is_answer j ≡ false → is_readable j ≡ true → both (is_greeting (life_at m l)) (not (is_type "Version" j)) ≡ false → Heard (head_of j) (some j)
    asking read e f g =
        subst (λ (x : Head). Heard x (some j)) (sym (head_is e f))
        (taken_heard (asked_taken s (question_on l t id j) p (m_type_of j) (kind_of j)) e
        (subst (SameTaken beside s m l t id j (asked_taken s (question_on l t id j) p (m_type_of j) (kind_of j))) (sym ((Reads.kept).reason m l j))
        (asked s m h l b t id v p j read down g)))

    ignored_answer : is_answer j ≡ true → is_ignored (life_at m l) (some j) ≡ false → (element_is "mType" "rSMsg" j and awaited_here (life_at m l) j) ≡ true
    unfolding is_ignored
    ignored_answer e i =
        not-false (element_is "mType" "rSMsg" j and awaited_here (life_at m l) j)
        (sym (ap (λ (c : Bool). pick c (not (element_is "mType" "rSMsg" j and awaited_here (life_at m l) j)) (not (is_readable j) or (is_greeting (life_at m l) and not (is_type "Version" j)))) e) ∙ i)

    ignored_other : is_answer j ≡ false → is_ignored (life_at m l) (some j) ≡ false → (not (is_readable j) or (is_greeting (life_at m l) and not (is_type "Version" j))) ≡ false
    unfolding is_ignored
    ignored_other e i =
        sym (ap (λ (c : Bool). pick c (not (element_is "mType" "rSMsg" j and awaited_here (life_at m l) j)) (not (is_readable j) or (is_greeting (life_at m l) and not (is_type "Version" j)))) e) ∙ i

    hearing : read_packet p ≡ some j → is_ignored (life_at m l) (some j) ≡ false → Heard (head_of j) (some j)
    hearing read i =
        bool_cases (is_answer j)
        (λ e. let q = ignored_answer e i in
        answering e (both_first (element_is "mType" "rSMsg" j) (awaited_here (life_at m l) j) q) (awaited_by (life_at m l) (string_of "oMId" j)) refl
        (awaited_one (string_at "oMId" j) (both_second (element_is "mType" "rSMsg" j) (awaited_here (life_at m l) j) q)))
        (λ e. let q = ignored_other e i in
        asking read e (not-false (is_readable j) (or_first (not (is_readable j)) (is_greeting (life_at m l) and not (is_type "Version" j)) q))
        (or_second (not (is_readable j)) (is_greeting (life_at m l) and not (is_type "Version" j)) q))

  by_packet : (o : Option Json) → read_packet p ≡ o → is_ignored (life_at m l) o ≡ false → Heard (maybe ignored head_of o) o
  unfolding is_ignored
  by_packet none read i = untrue (sym i)
  by_packet (some j) read i = hearing j read i

  heard : is_ignored (life_at m l) (read_packet p) ≡ false → SameHeard beside s m l t id (packet_taken s l t id p) (read_packet p)
  heard i = subst (λ (x : Head). Heard x (read_packet p)) (sym ((Reads.kept).head p)) (by_packet (read_packet p) refl i)

pub packet_calls : PacketCalls
packet_calls beside s m h c (packets l t random p out) u =
    packet_same s m h l t random p out (λ b down i. heard s m h l b t (identity_of random) (own_sixteen random.bytes u) p down i)
