-- The head that the code takes from a packet's value is the one by the machine's tests.
-- Assumes nothing.
use Rattle.basis.proofs.Std.{ℕ, ◌-◌, String, arith, ◌≡◌, refl, sym, ap, ◌∙◌, Bool, true, false, not, List, [], ◌++◌, append-nil, Option, some, none, length, replicate, pick, both, same_bytes, text, bool_cases, untrue, not_both, same_true}
use Rattle.identity.specs.declared.ReadIdentity.{ReadIdentity}
use Rattle.identity.specs.Text.{identity_text}
use Rattle.identity.specs.Read.{read_identity, not_found}
use Rattle.identity.proofs.Read.{answers}
use Rattle.json_text.specs.Copied.{ascii}
use Rattle.json_value.specs.Grammar.{Json}
use Rattle.json_value.specs.Grammar.Json.{null, bool, num, str, arr, obj}
use Rattle.read_head.specs.declared.Verdict.{Verdict}
use Rattle.read_head.specs.declared.Verdict.TheVariants.{Bad}
use Rattle.read_head.specs.declared.Kind.{Kind}
use Rattle.read_head.specs.declared.Kind.TheVariants.{Version, Watchdog, Alarm, AggregatedStatusRequest, StatusRequest, StatusSubscribe, StatusUnsubscribe, CommandRequest, Unexpected}
use Rattle.read_head.specs.declared.Class.{Class}
use Rattle.read_head.specs.declared.Class.TheVariants.{Acked, NotAcked, Asked}
use Rattle.read_head.specs.declared.Head.{Head}
use Rattle.read_head.specs.Word.{Word, other, word, word_for, word_in}
use Rattle.read_head.specs.Values.{verdict_of}
use Rattle.read_head.specs.Head as Code
use Rattle.read_head.specs.Head.{identity_of, characters, type_of, ignored, answered, asked, head_by, head_in}
use Rattle.machine.specs.Words.{Bytes, if'◌then◌else◌, ◌or◌, reads, maybe, is_some, or_else}
use Rattle.machine.specs.Json.{shape, element, string_of, element_is, is_identity}
use Rattle.machine.specs.Answers.{is_answer, replies_at_once}
use Rattle.refine_read.specs.Verdicts.{verdict}
use Rattle.refine_read.specs.Head.{kind_of, type_name, m_type_of, answer_class, answer_of, request_of, head_of}
use Rattle.refine_read.proofs.Words.{at_text, word_of, word_in_lem, usable}
use Rattle.refine_read.proofs.Usable.{usable_of}
use Rattle.refine_read.proofs.Identity.{readable, identity_long, identity_ascii}

-- the string that an element is
abbrev string_in : Option Json → Option Bytes
string_in o = maybe none (λ v. (shape v).string) o

-- an element is the quoted string
abbrev says_in : String → Option Json → Bool
says_in quoted o = maybe false (reads quoted) (string_in o)

-- ---- mType
mtype_is : (o : Option Json) → verdict_of (reads "rSMsg") (word_of o) ≡ verdict (not (is_some o)) (not (says_in "rSMsg" o))
unfolding ascii
mtype_is none = refl
mtype_is (some null) = refl
mtype_is (some (bool b)) = refl
mtype_is (some (num d)) = refl
mtype_is (some (arr js)) = refl
mtype_is (some (obj ms)) = refl
mtype_is (some (str d)) = bool_cases (reads "rSMsg" d)
    (λ t. rw (same_true d (text "rSMsg") t))
    (λ f. rw f (by (usable d) f))
  where
    by : (u : Bool) → reads "rSMsg" d ≡ false → verdict_of (reads "rSMsg") (pick u (word d) other) ≡ Bad
    by true f = rw f
    by false f = refl

-- ---- identities
identity_said : (d : Bytes) → identity_of (word_for d) ≡ read_identity d
identity_said d = by (usable d) refl
  where
    by : (u : Bool) → usable d ≡ u → identity_of (pick u (word d) other) ≡ read_identity d
    by true e = refl
    by false e = sym ((answers d).refused (bool_cases (read_identity d).found
        (λ t. let i = readable d ∙ t in not_both (usable_of d (omega (arith, identity_long d i)) (identity_ascii d i)) e)
        (λ f. f))).0

nothing_read : read_identity [] ≡ not_found
unfolding read_identity identity_text
nothing_read = refl

identity_of_lem : (o : Option Json) → identity_of (word_of o) ≡ read_identity (or_else [] (string_in o))
identity_of_lem none = sym nothing_read
identity_of_lem (some null) = sym nothing_read
identity_of_lem (some (bool b)) = sym nothing_read
identity_of_lem (some (num d)) = sym nothing_read
identity_of_lem (some (arr js)) = sym nothing_read
identity_of_lem (some (obj ms)) = sym nothing_read
identity_of_lem (some (str d)) = identity_said d

pub identity_in : (j : Json) (name : String) → identity_of (word_in j (text name)) ≡ read_identity (string_of name j)
identity_in j name = ap identity_of (word_in_lem j name) ∙ identity_of_lem (element name j)

-- ---- an answer, and any other packet
abbrev answered_by : Class → ReadIdentity → Head
answered_by c r = record { class = c; received = record { bytes = replicate 36 0 }; identity = r.id; included = false }

abbrev asked_by : Class → Bool → Bytes → Head
asked_by c included d = record { class = c; received = record { bytes = d }; identity = record { bytes = replicate 16 0 }; included = included }

answered_of : (c : Class) (b m : Bool) (r : ReadIdentity) → (b ≡ true → m ≡ false) → answered c (verdict m (not b)) r ≡ pick (both b r.found) (answered_by c r) ignored
answered_of c true true r h = untrue (sym (h refl))
answered_of c true false r h = refl
answered_of c false true r h = refl
answered_of c false false r h = refl

there : (o : Option Json) → says_in "rSMsg" o ≡ true → not (is_some o) ≡ false
there none e = untrue e
there (some j) e = refl

long_enough : (d : Bytes) → length d ≡ 36 → d ++ replicate (36 - length d) 0 ≡ d
long_enough d e = let z : 36 - length d ≡ 0 = omega arith in rw (z, append-nil)

received_of : (o : Option Json) → (identity_of (word_of o)).found ≡ true → characters (word_of o) ≡ or_else [] (string_in o)
received_of none e = untrue e
received_of (some null) e = untrue e
received_of (some (bool b)) e = untrue e
received_of (some (num d)) e = untrue e
received_of (some (arr js)) e = untrue e
received_of (some (obj ms)) e = untrue e
received_of (some (str d)) e = by (usable d) e
  where
    by : (u : Bool) → (identity_of (pick u (word d) other)).found ≡ true → characters (pick u (word d) other) ≡ d
    by true e = long_enough d (identity_long d (readable d ∙ e))
    by false e = untrue e

readable_of : (o : Option Bytes) → maybe false is_identity o ≡ (read_identity (or_else [] o)).found
readable_of none = sym (ap (λ (r : ReadIdentity). r.found) nothing_read)
readable_of (some d) = readable d

asked_of : (k : Kind) (n : Bool) (v : Verdict) (o : Option Json)
    → asked k n v (word_of o) ≡ pick (maybe false is_identity (string_in o)) (asked_by (Asked v k) n (or_else [] (string_in o))) ignored
asked_of k n v o =
    let e : maybe false is_identity (string_in o) ≡ (identity_of (word_of o)).found = readable_of (string_in o) ∙ ap (λ (r : ReadIdentity). r.found) (sym (identity_of_lem o)) in
    rw e (by (identity_of (word_of o)).found refl)
  where
    by : (b : Bool) → (identity_of (word_of o)).found ≡ b → pick b (asked_by (Asked v k) n (characters (word_of o))) ignored ≡ pick b (asked_by (Asked v k) n (or_else [] (string_in o))) ignored
    by true e = ap (asked_by (Asked v k) n) (received_of o e)
    by false e = refl

-- ---- type
module _ (is : Bytes → Bool) where
  -- by either type
  abbrev asks : String → Bool
  asks name = is (type_name name false) or is (type_name name true)

  abbrev kind_said : Kind
  kind_said =
      if' is (text "Version") then Version
      else if' is (text "Watchdog") then Watchdog
      else if' is (text "Alarm") then Alarm
      else if' is (text "AggregatedStatusRequest") then AggregatedStatusRequest
      else if' asks "StatusRequest" then StatusRequest
      else if' is (text "StatusSubscribe") then StatusSubscribe
      else if' is (text "StatusUnsubscribe") then StatusUnsubscribe
      else if' asks "CommandRequest" then CommandRequest
      else Unexpected

  abbrev included_said : Bool
  included_said = is (type_name "StatusRequest" true) or is (type_name "CommandRequest" true)

  abbrev head_said : Verdict → (List ℕ → Word) → Head
  head_said v f =
      if' is (text "MessageAck") or is (text "MessageNotAck") then answered (if' is (text "MessageAck") then Acked else NotAcked) v (identity_of (f (text "oMId")))
      else asked kind_said included_said v (f (text "mId"))

module _ (v : Verdict) (f : List ℕ → Word) where
  abbrev Said : Bytes → Type 0
  Said d = Code.head_of (type_of (word_for d)) v f ≡ head_said (same_bytes d) v f

  type_said : (d : Bytes) → Said d
  unfolding ascii
  type_said d =
      at_text Said d (text "Version") refl (λ a.
      at_text Said d (text "Watchdog") refl (λ b.
      at_text Said d (text "MessageAck") refl (λ c.
      at_text Said d (text "MessageNotAck") refl (λ e.
      at_text Said d (text "Alarm") refl (λ g.
      at_text Said d (text "AggregatedStatus") refl (λ h.
      at_text Said d (text "AggregatedStatusRequest") refl (λ i.
      at_text Said d (text "StatusRequest") refl (λ k.
      at_text Said d (text "StatusResponse") refl (λ l.
      at_text Said d (text "StatusSubscribe") refl (λ m.
      at_text Said d (text "StatusUnsubscribe") refl (λ n.
      at_text Said d (text "StatusUpdate") refl (λ o.
      at_text Said d (text "CommandRequest") refl (λ p.
      at_text Said d (text "CommandResponse") refl (λ q.
      at_text Said d (text "StatusRequestAckIncluded") refl (λ r.
      at_text Said d (text "StatusResponseAckIncluded") refl (λ s.
      at_text Said d (text "CommandRequestAckIncluded") refl (λ u.
      at_text Said d (text "CommandResponseAckIncluded") refl (λ w.
      bool_cases (usable d)
      (λ t. rw (t, a, b, c, e, g, h, i, k, l, m, n, o, p, q, r, s, u, w))
      (λ t. rw (t, a, b, c, e, g, i, k, m, n, p, r, u))))))))))))))))))))

  type_of_lem : (o : Option Json) → Code.head_of (type_of (word_of o)) v f ≡ head_said (λ n. maybe false (λ d. same_bytes d n) (string_in o)) v f
  type_of_lem none = refl
  type_of_lem (some null) = refl
  type_of_lem (some (bool b)) = refl
  type_of_lem (some (num d)) = refl
  type_of_lem (some (arr js)) = refl
  type_of_lem (some (obj ms)) = refl
  type_of_lem (some (str d)) = type_said d

module _ (j : Json) where
  mtype_in : verdict_of (reads "rSMsg") (word_in j (text "mType")) ≡ m_type_of j
  mtype_in = ap (verdict_of (reads "rSMsg")) (word_in_lem j "mType") ∙ mtype_is (element "mType" j)

  answer_is : answered (answer_class j) (m_type_of j) (identity_of (word_in j (text "oMId"))) ≡ answer_of j
  answer_is =
      rw (identity_in j "oMId")
      (answered_of (answer_class j) (element_is "mType" "rSMsg" j) (not (is_some (element "mType" j))) (read_identity (string_of "oMId" j)) (there (element "mType" j))
      ∙ rw (readable (string_of "oMId" j)))

  request_is : asked (kind_of j) (replies_at_once j) (m_type_of j) (word_in j (text "mId")) ≡ request_of j
  request_is = ap (asked (kind_of j) (replies_at_once j) (m_type_of j)) (word_in_lem j "mId") ∙ asked_of (kind_of j) (replies_at_once j) (m_type_of j) (element "mId" j)

  pub head_is : head_in j ≡ head_of j
  unfolding head_in head_by
  head_is =
      rw (mtype_in, word_in_lem j "type")
      (type_of_lem (m_type_of j) (word_in j) (element "type" j) ∙ by (is_answer j))
    where
      by : (b : Bool) → pick b (answered (answer_class j) (m_type_of j) (identity_of (word_in j (text "oMId")))) (asked (kind_of j) (replies_at_once j) (m_type_of j) (word_in j (text "mId"))) ≡ pick b (answer_of j) (request_of j)
      by true = answer_is
      by false = request_is
