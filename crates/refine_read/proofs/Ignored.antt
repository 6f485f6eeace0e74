-- What is awaited by the text of an identity is awaited by its bytes, and the same packets are ignored.
-- Assumes nothing.
use Rattle.basis.proofs.Std.{◌≡◌, refl, sym, ap, ap₂, ◌∙◌, Bool, true, false, not, List, [], ◌∷◌, Option, some, none, replicate, pick, both}
use Rattle.identity.specs.Read.{SixteenBytes, read_identity}
use Rattle.json_value.specs.Grammar.{Json}
use Rattle.read_head.specs.declared.Kind.TheVariants.{Version, Watchdog, Alarm, AggregatedStatusRequest, StatusRequest, StatusSubscribe, StatusUnsubscribe, CommandRequest, Unexpected}
use Rattle.read_head.specs.declared.Class.TheVariants.{Acked, NotAcked, Asked}
use Rattle.read_head.specs.Head.{ignored}
use Rattle.machine.specs.Words.{Bytes, ◌and◌, ◌or◌, maybe, is_some, or_else, any, first_that, but_first}
use Rattle.machine.specs.State.{Awaited, Life}
use Rattle.machine.specs.Json.{string_at, string_of, element_is, is_type, asks_for, is_identity, is_identity_of}
use Rattle.machine.specs.Life.{is_greeting, is_awaited, awaited_by, with_awaited, answered_to}
use Rattle.machine.specs.Answers.{is_answer, awaited_here, is_readable, is_ignored, replies_at_once}
use Rattle.refine_read.specs.Head.{kind_of, m_type_of, answer_class, answer_of, request_of, head_of}
use Rattle.refine_read.specs.Ignored.{AllSixteen, is_of, found_by, left_by, is_version, ignored_as, ignored_by}
use Rattle.refine_read.proofs.Identity.{readable, says_bytes}

module _ (s : Bytes) where
  abbrev bytes_of : Bytes
  bytes_of = (read_identity s).id.bytes

  one : (b : Bool) → is_identity s ≡ b → (a : Awaited) → SixteenBytes a.identity → is_identity_of a.identity s ≡ (b and is_of bytes_of a)
  one b e a v = says_bytes a.identity s v ∙ ap (λ (c : Bool). both c (is_of bytes_of a)) (sym (readable s) ∙ e)

  first : (b : Bool) → is_identity s ≡ b → (xs : List Awaited) → AllSixteen xs → first_that (λ a. is_identity_of a.identity s) xs ≡ pick b (first_that (is_of bytes_of) xs) none
  first true e [] v = refl
  first false e [] v = refl
  first true e (a ∷ xs) v = ap₂ (λ (c : Bool) (r : Option Awaited). pick c (some a) r) (one true e a v.0) (first true e xs v.1)
  first false e (a ∷ xs) v = ap₂ (λ (c : Bool) (r : Option Awaited). pick c (some a) r) (one false e a v.0) (first false e xs v.1)

  rest : (b : Bool) → is_identity s ≡ b → (xs : List Awaited) → AllSixteen xs → but_first (λ a. is_identity_of a.identity s) xs ≡ pick b (but_first (is_of bytes_of) xs) xs
  rest true e [] v = refl
  rest false e [] v = refl
  rest true e (a ∷ xs) v = ap₂ (λ (c : Bool) (r : List Awaited). pick c xs (a ∷ r)) (one true e a v.0) (rest true e xs v.1)
  rest false e (a ∷ xs) v = ap₂ (λ (c : Bool) (r : List Awaited). pick c xs (a ∷ r)) (one false e a v.0) (rest false e xs v.1)

module _ (k : Life) (v : AllSixteen k.awaited) where
  pub awaited_is : (s : Bytes) → awaited_by k s ≡ found_by k s
  awaited_is s = first s (is_identity s) refl k.awaited v

  pub answered_is : (s : Bytes) → answered_to s k ≡ with_awaited (left_by k s) k
  answered_is s = ap (λ (xs : List Awaited). with_awaited xs k) (rest s (is_identity s) refl k.awaited v)

  some_of : (f : Awaited → Bool) (xs : List Awaited) → is_some (first_that f xs) ≡ any f xs
  some_of f [] = refl
  some_of f (a ∷ xs) = by (f a) (some_of f xs)
    where
      by : (b : Bool) → is_some (first_that f xs) ≡ any f xs → is_some (pick b (some a) (first_that f xs)) ≡ pick b true (any f xs)
      by true e = refl
      by false e = e

  -- whether an oMId is awaited
  here : (o : Option Bytes) → maybe false (λ s. is_some (awaited_by k s)) o ≡ both (is_identity (or_else [] o)) (is_awaited k (read_identity (or_else [] o)).id.bytes)
  here none = refl
  here (some s) = ap is_some (awaited_is s) ∙ by (is_identity s)
    where
      by : (b : Bool) → is_some (pick b (first_that (is_of (read_identity s).id.bytes) k.awaited) none) ≡ both b (is_awaited k (read_identity s).id.bytes)
      by true = some_of (is_of (read_identity s).id.bytes) k.awaited
      by false = refl

  module _ (j : Json) where
    abbrev id : Bytes
    id = (read_identity (string_of "oMId" j)).id.bytes

    either : ignored_as k id (answer_class j) ≡ not (is_awaited k id)
    either = by (is_type "MessageAck" j)
      where
        by : (b : Bool) → ignored_as k id (pick b Acked NotAcked) ≡ not (is_awaited k id)
        by true = refl
        by false = refl

    answer_ignored : not (element_is "mType" "rSMsg" j and awaited_here k j) ≡ ignored_by k (answer_of j)
    answer_ignored =
        ap (λ (b : Bool). not (element_is "mType" "rSMsg" j and b)) (here (string_at "oMId" j)) ∙ by (element_is "mType" "rSMsg" j) (is_identity (string_of "oMId" j))
      where
        by : (a b : Bool) → not (both a (both b (is_awaited k id)))
            ≡ ignored_by k (pick (both a b) (record { class = answer_class j; received = record { bytes = replicate 36 0 }; identity = (read_identity (string_of "oMId" j)).id; included = false }) ignored)
        by true true = sym either
        by true false = refl
        by false b = refl

    version_kind : is_version (kind_of j) ≡ is_type "Version" j
    version_kind = by (is_type "Version" j) (is_type "Watchdog" j) (is_type "Alarm" j) (is_type "AggregatedStatusRequest" j) (asks_for "StatusRequest" j) (is_type "StatusSubscribe" j) (is_type "StatusUnsubscribe" j) (asks_for "CommandRequest" j)
      where
        by : (a b c d e f g h : Bool)
            → is_version (pick a Version (pick b Watchdog (pick c Alarm (pick d AggregatedStatusRequest (pick e StatusRequest (pick f StatusSubscribe (pick g StatusUnsubscribe (pick h CommandRequest Unexpected)))))))) ≡ a
        by true b c d e f g h = refl
        by false true c d e f g h = refl
        by false false true d e f g h = refl
        by false false false true e f g h = refl
        by false false false false true f g h = refl
        by false false false false false true g h = refl
        by false false false false false false true h = refl
        by false false false false false false false true = refl
        by false false false false false false false false = refl

    request_ignored : (not (is_readable j) or (is_greeting k and not (is_type "Version" j))) ≡ ignored_by k (request_of j)
    request_ignored = by (is_readable j)
      where
        by : (b : Bool) → (not b or (is_greeting k and not (is_type "Version" j)))
            ≡ ignored_by k (pick b (record { class = Asked (m_type_of j) (kind_of j); received = record { bytes = string_of "mId" j }; identity = record { bytes = replicate 16 0 }; included = replies_at_once j }) ignored)
        by true = ap (λ (b : Bool). both (is_greeting k) (not b)) (sym version_kind)
        by false = refl

  pub ignored_is : (o : Option Json) → is_ignored k o ≡ ignored_by k (maybe ignored head_of o)
  unfolding is_ignored
  ignored_is none = refl
  ignored_is (some j) = by (is_answer j)
    where
      by : (b : Bool) → pick b (not (element_is "mType" "rSMsg" j and awaited_here k j)) (not (is_readable j) or (is_greeting k and not (is_type "Version" j)))
          ≡ ignored_by k (pick b (answer_of j) (request_of j))
      by true = answer_ignored j
      by false = request_ignored j
