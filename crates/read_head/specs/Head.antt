-- What kind of packet it is, before its own elements are judged: an answer, a request, or to be ignored.
-- Assumes nothing.
use Prim.Native.String.{String}
use Rattle.std.specs.Prelude.{Bool, true, false, List, ◌++◌, ℕ, ◌-◌, eqb, length, replicate}
use Rattle.basis.specs.Pick.{pick}
use Rattle.basis.specs.Lists.{same_bytes}
use Rattle.basis.specs.Text.{text}
use Rattle.names.specs.declared.Found.{Found}
use Rattle.names.specs.declared.Found.TheVariants.{At, Nothing}
use Rattle.names.specs.Names.{find_type, index_of}
use Rattle.identity.specs.declared.ReadIdentity.{ReadIdentity}
use Rattle.identity.specs.Read.{read_identity, not_found}
use Rattle.json_value.specs.Grammar.{Json}
use Rattle.json_value.specs.Reader.{skip_ws}
use Rattle.json_packet.specs.Packet.{is_packet}
use Rattle.read_head.specs.declared.Verdict.{Verdict}
use Rattle.read_head.specs.declared.Verdict.TheVariants.{Good, Missing, Bad}
use Rattle.read_head.specs.declared.Kind.{Kind}
use Rattle.read_head.specs.declared.Kind.TheVariants.{Version, Watchdog, Alarm, AggregatedStatusRequest, StatusRequest, StatusSubscribe, StatusUnsubscribe, CommandRequest, Unexpected}
use Rattle.read_head.specs.declared.Class.{Class}
use Rattle.read_head.specs.declared.Class.TheVariants.{Ignored, Acked, NotAcked, Asked}
use Rattle.read_head.specs.declared.Head.{Head}
use Rattle.read_head.specs.Word.{Word, absent, other, word, word_in, word_at}
use Rattle.read_head.specs.Values.{verdict_of}

-- an identity's text, in either case
abbrev pub identity_of : Word → ReadIdentity
identity_of absent = not_found
identity_of other = not_found
identity_of (word d) = read_identity d

-- the characters of a string, with zeros behind them up to 36: all of them where it is an identity's text
abbrev pub characters : Word → List ℕ
characters absent = replicate 36 0
characters other = replicate 36 0
characters (word d) = d ++ replicate (36 - length d) 0

-- the number of a type's name
abbrev pub type_of : Word → Found
type_of absent = Nothing
type_of other = Nothing
type_of (word d) = find_type d

-- i is the number of a type
abbrev pub is_type : String → ℕ → Bool
is_type name i = eqb i (index_of (text name))

-- the types that are taken, besides the two answers, by their numbers in the table of names
abbrev pub kind_for : ℕ → Kind
kind_for i =
    pick (is_type "Version" i) Version
    (pick (is_type "Watchdog" i) Watchdog
    (pick (is_type "Alarm" i) Alarm
    (pick (is_type "AggregatedStatusRequest" i) AggregatedStatusRequest
    (pick (is_type "StatusRequest" i) StatusRequest
    (pick (is_type "StatusSubscribe" i) StatusSubscribe
    (pick (is_type "StatusUnsubscribe" i) StatusUnsubscribe
    (pick (is_type "CommandRequest" i) CommandRequest
    (pick (is_type "StatusRequestAckIncluded" i) StatusRequest
    (pick (is_type "CommandRequestAckIncluded" i) CommandRequest Unexpected)))))))))

-- the types that are answered by one message, which carries its acknowledgement
abbrev pub included_for : ℕ → Bool
included_for i = pick (is_type "StatusRequestAckIncluded" i) true (is_type "CommandRequestAckIncluded" i)

-- the kinds as numbers, so that a question about a kind is one test: 0 is none that is taken
abbrev pub kind_number : Kind → ℕ
kind_number Unexpected = 0
kind_number Version = 1
kind_number Watchdog = 2
kind_number Alarm = 3
kind_number AggregatedStatusRequest = 4
kind_number StatusRequest = 5
kind_number StatusSubscribe = 6
kind_number StatusUnsubscribe = 7
kind_number CommandRequest = 8

abbrev pub ignored : Head
ignored = record { class = Ignored; received = record { bytes = replicate 36 0 }; identity = record { bytes = replicate 16 0 }; included = false }

-- an answer: its mType is rSMsg, and its oMId can be read
abbrev pub answered : Class → Verdict → ReadIdentity → Head
answered c Good o = pick o.found (record { class = c; received = record { bytes = replicate 36 0 }; identity = o.id; included = false }) ignored
answered c Missing o = ignored
answered c Bad o = ignored

-- a request: its mId can be read, and is kept as it was received
abbrev pub asked : Kind → Bool → Verdict → Word → Head
asked k included v w =
    pick (identity_of w).found
    (record { class = Asked v k; received = record { bytes = characters w }; identity = record { bytes = replicate 16 0 }; included = included })
    ignored

abbrev pub head_for : ℕ → Verdict → (List ℕ → Word) → Head
head_for i v f =
    pick (is_type "MessageAck" i) (answered Acked v (identity_of (f (text "oMId"))))
    (pick (is_type "MessageNotAck" i) (answered NotAcked v (identity_of (f (text "oMId")))) (asked (kind_for i) (included_for i) v (f (text "mId"))))

abbrev pub head_of : Found → Verdict → (List ℕ → Word) → Head
head_of (At i) v f = head_for i v f
head_of Nothing v f = asked Unexpected false v (f (text "mId"))

unfoldable pub head_by : (List ℕ → Word) → Head
head_by f = head_of (type_of (f (text "type"))) (verdict_of (λ d. same_bytes d (text "rSMsg")) (f (text "mType"))) f

-- of a packet's meaning
unfoldable pub head_in : Json → Head
head_in j = head_by (word_in j)

-- of any bytes: what is no packet is ignored
unfoldable pub head_at : List ℕ → Head
head_at s = pick (is_packet s) (head_by (word_at (skip_ws s))) ignored
