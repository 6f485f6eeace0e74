-- What kind of packet it is, by the machine's tests.
-- Assumes nothing.
use Rattle.std.specs.Prelude.{◌≡◌, Bool, true, false, not, ◌++◌, replicate}
use Prim.Native.String.{String}
use Rattle.std.proofs.Math.Option.{some}
use Rattle.basis.specs.Text.{text}
use Rattle.identity.specs.Read.{read_identity}
use Rattle.json_value.specs.Grammar.{Json}
use Rattle.read_head.specs.declared.Verdict.{Verdict}
use Rattle.read_head.specs.declared.Kind.{Kind}
use Rattle.read_head.specs.declared.Kind.TheVariants.{Version, Watchdog, Alarm, AggregatedStatusRequest, StatusRequest, StatusSubscribe, StatusUnsubscribe, CommandRequest, Unexpected}
use Rattle.read_head.specs.declared.Class.{Class}
use Rattle.read_head.specs.declared.Class.TheVariants.{Acked, NotAcked, Asked}
use Rattle.read_head.specs.declared.Head.{Head}
use Rattle.read_head.specs.Head.{ignored}
use Rattle.machine.specs.Words.{Bytes, if'◌then◌else◌, ◌and◌, is_some}
use Rattle.machine.specs.Json.{element, string_at, string_of, element_is, is_type, asks_for, is_identity}
use Rattle.machine.specs.Answers.{is_answer, is_readable, replies_at_once, is_taken}
use Rattle.refine_read.specs.Verdicts.{verdict}

abbrev pub kind_of : Json → Kind
kind_of j =
    if' is_type "Version" j then Version
    else if' is_type "Watchdog" j then Watchdog
    else if' is_type "Alarm" j then Alarm
    else if' is_type "AggregatedStatusRequest" j then AggregatedStatusRequest
    else if' asks_for "StatusRequest" j then StatusRequest
    else if' is_type "StatusSubscribe" j then StatusSubscribe
    else if' is_type "StatusUnsubscribe" j then StatusUnsubscribe
    else if' asks_for "CommandRequest" j then CommandRequest
    else Unexpected

-- a type's name, and that of a request whose answer carries its acknowledgement
abbrev pub type_name : String → Bool → Bytes
type_name name false = text name
type_name name true = text name ++ text "AckIncluded"

-- type is the kind's name; or it is "missing, no string or not taken"
pub data Typed (j : Json) : Kind → Type 0 where
  version : string_at "type" j ≡ some (text "Version") → Typed j Version
  watchdog : string_at "type" j ≡ some (text "Watchdog") → Typed j Watchdog
  alarm : string_at "type" j ≡ some (text "Alarm") → Typed j Alarm
  aggregated_request : string_at "type" j ≡ some (text "AggregatedStatusRequest") → Typed j AggregatedStatusRequest
  status_request : (included : Bool) → string_at "type" j ≡ some (type_name "StatusRequest" included) → Typed j StatusRequest
  status_subscribe : string_at "type" j ≡ some (text "StatusSubscribe") → Typed j StatusSubscribe
  status_unsubscribe : string_at "type" j ≡ some (text "StatusUnsubscribe") → Typed j StatusUnsubscribe
  command_request : (included : Bool) → string_at "type" j ≡ some (type_name "CommandRequest" included) → Typed j CommandRequest
  not_taken : is_taken j ≡ false → Typed j Unexpected

-- "mType "Missing element" or "Bad value""
abbrev pub m_type_of : Json → Verdict
m_type_of j = verdict (not (is_some (element "mType" j))) (not (element_is "mType" "rSMsg" j))

abbrev pub answer_class : Json → Class
answer_class j = if' is_type "MessageAck" j then Acked else NotAcked

-- "type MessageAck or MessageNotAck whose mType is not rSMsg or whose oMId is not awaited": one that is no identity is not awaited
abbrev pub answer_of : Json → Head
answer_of j =
    if' element_is "mType" "rSMsg" j and is_identity (string_of "oMId" j) then
    record { class = answer_class j; received = record { bytes = replicate 36 0 }; identity = (read_identity (string_of "oMId" j)).id; included = false }
    else ignored

-- "any other packet without a readable mId"; "An answer's oMId repeats the received mId unchanged."
abbrev pub request_of : Json → Head
request_of j =
    if' is_readable j then
    record { class = Asked (m_type_of j) (kind_of j); received = record { bytes = string_of "mId" j }; identity = record { bytes = replicate 16 0 }; included = replies_at_once j }
    else ignored

abbrev pub head_of : Json → Head
head_of j = if' is_answer j then answer_of j else request_of j
