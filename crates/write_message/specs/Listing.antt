-- A message as JSON: its elements in the order of source document 000's listings. Its text is `text_of` of this and nothing else.
-- Assumes nothing.
use Rattle.std.specs.Prelude.{ℕ, ◌/◌, ◌%◌, List, [], ◌∷◌, ◌++◌, eqb}
use Prim.Native.String.{String}
use Rattle.basis.specs.Pick.{pick}
use Rattle.basis.specs.Text.{text}
use Rattle.identity.specs.Text.{identity_text}
use Rattle.number.specs.Decimal.{digits, decimal_of}
use Rattle.write_member.specs.Member.{moment_text}
use Rattle.json_value.specs.Grammar.{Json, Jsons, Members}
use Rattle.json_value.specs.Grammar.Json.{null, bool, str, arr, obj}
use Rattle.json_value.specs.Grammar.Jsons.{jnil, jcons}
use Rattle.json_value.specs.Grammar.Members.{mnil, mcons}
use Rattle.json_write.specs.Text.{text_of}
use Rattle.write_message.specs.declared.AlarmState.{AlarmState}
use Rattle.write_message.specs.declared.Value.{Value}
use Rattle.write_message.specs.declared.Value.TheVariants.{Recent, Old, Unknown, Undefined}
use Rattle.write_message.specs.declared.Told.{Told}
use Rattle.write_message.specs.declared.Told.TheVariants.{Response, Update, Command}
use Rattle.write_message.specs.Message.{Message, Status}
use Rattle.write_message.specs.Message.Message.{version, watchdog, ack, not_ack, alarm, aggregated, statuses, included}

-- an element and the ones after it; an element that is a string
abbrev pub element : String → Json → Members → Members
element name j ms = mcons (text name) j ms

abbrev pub said : String → List ℕ → Members → Members
said name s ms = mcons (text name) (str s) ms

-- how every message begins: mType, type and the identity under its name
abbrev pub head_of : List ℕ → String → List ℕ → Members → Members
head_of type name id ms = said "mType" (text "rSMsg") (said "type" type (said name id ms))

-- how a message about a component goes on behind its identity
abbrev pub of_component : List ℕ → Members → Members
of_component component ms = said "ntsOId" [] (said "xNId" [] (said "cId" component ms))

abbrev pub about_of : List ℕ → List ℕ → List ℕ → Members → Members
about_of type id component ms = head_of type "mId" (identity_text id) (of_component component ms)

-- "offering 3.1.5 and 3.2"; request 07: "Offer 3.1.4 as well"
abbrev pub offered : List (List ℕ)
offered = text "3.1.4" ∷ text "3.1.5" ∷ text "3.2" ∷ []

abbrev pub offered_json : List (List ℕ) → Jsons
offered_json [] = jnil
offered_json (v ∷ vs) = jcons (obj (said "vers" v mnil)) (offered_json vs)

-- aSp: 0 Issue, 1 Acknowledge, 2 Suspend
abbrev pub event_text : ℕ → List ℕ
event_text e = pick (eqb e 0) (text "Issue") (pick (eqb e 1) (text "Acknowledge") (text "Suspend"))

abbrev pub states_of : AlarmState → Members → Members
states_of s ms =
    said "aSp" (event_text s.event)
    (said "ack" (pick s.acknowledged (text "Acknowledged") (text "notAcknowledged"))
    (said "aS" (pick s.active (text "Active") (text "inActive"))
    (said "sS" (pick s.suspended (text "Suspended") (text "notSuspended")) ms)))

-- category: 0 T, 1 D
abbrev pub category_text : ℕ → List ℕ
category_text c = pick (eqb c 0) (text "T") (text "D")

-- whether the bit of weight p is set
abbrev pub flag : ℕ → ℕ → Json
flag value p = bool (eqb (value / p % 2) 1)

-- the eight booleans, the first highest
abbrev pub flags_of : ℕ → Jsons
flags_of v =
    jcons (flag v 128) (jcons (flag v 64) (jcons (flag v 32) (jcons (flag v 16)
    (jcons (flag v 8) (jcons (flag v 4) (jcons (flag v 2) (jcons (flag v 1) jnil)))))))

abbrev pub type_text : Told → List ℕ
type_text Response = text "StatusResponse"
type_text Update = text "StatusUpdate"
type_text Command = text "CommandResponse"

-- request 04: the old type's name with AckIncluded behind it; nothing writes that of Update
abbrev pub included_text : Told → List ℕ
included_text kind = type_text kind ++ text "AckIncluded"

-- what the elements of the three are called: the time, the list; in an entry the code, the value and how good it is
abbrev pub time_name : Told → String
time_name Response = "sTs"
time_name Update = "sTs"
time_name Command = "cTS"

abbrev pub list_name : Told → String
list_name Response = "sS"
list_name Update = "sS"
list_name Command = "rvs"

abbrev pub code_name : Told → String
code_name Response = "sCI"
code_name Update = "sCI"
code_name Command = "cCI"

abbrev pub value_name : Told → String
value_name Response = "s"
value_name Update = "s"
value_name Command = "v"

abbrev pub quality_name : Told → String
quality_name Response = "q"
quality_name Update = "q"
quality_name Command = "age"

-- "`s` is the shortest decimal text, `q` recent", or old; else `s` null; of a command v and age
abbrev pub value_json : Value → Json
value_json (Recent v) = str (decimal_of v)
value_json (Old v) = str (decimal_of v)
value_json Unknown = null
value_json Undefined = null

abbrev pub quality_text : Value → List ℕ
quality_text (Recent v) = text "recent"
quality_text (Old v) = text "old"
quality_text Unknown = text "unknown"
quality_text Undefined = text "undefined"

abbrev pub status_json : Told → Status → Json
status_json kind s =
    obj (said (code_name kind) s.code
    (said "n" s.name (element (value_name kind) (value_json s.value) (said (quality_name kind) (quality_text s.value) mnil))))

abbrev pub statuses_json : Told → List Status → Jsons
statuses_json kind [] = jnil
statuses_json kind (s ∷ ss) = jcons (status_json kind s) (statuses_json kind ss)

-- what is told of a component, behind the identity: its own, or the one that is repeated
abbrev pub told_of : Told → List ℕ → ℕ → List Status → Members
told_of kind component time entries =
    of_component component (said (time_name kind) (moment_text time) (element (list_name kind) (arr (statuses_json kind entries)) mnil))

abbrev pub json_of : Message → Json
json_of (version id site sxl) =
    obj (head_of (text "Version") "mId" (identity_text id)
    (element "RSMP" (arr (offered_json offered))
    (element "siteId" (arr (jcons (obj (said "sId" site mnil)) jnil)) (said "SXL" sxl mnil))))
json_of (watchdog id time) = obj (head_of (text "Watchdog") "mId" (identity_text id) (said "wTs" (moment_text time) mnil))
json_of (ack received) = obj (head_of (text "MessageAck") "oMId" received mnil)
json_of (not_ack received reason) = obj (head_of (text "MessageNotAck") "oMId" received (said "rea" reason mnil))
json_of (alarm id component code s) =
    obj (about_of (text "Alarm") id component
    (said "aCId" code (said "xACId" [] (said "xNACId" []
    (states_of s
    (said "aTs" (moment_text s.time) (said "cat" (category_text s.category) (said "pri" (digits s.priority) (element "rvs" (arr jnil) mnil)))))))))
json_of (aggregated id component time value) =
    obj (about_of (text "AggregatedStatus") id component
    (said "aSTS" (moment_text time) (said "fP" [] (said "fS" [] (element "se" (arr (flags_of value)) mnil)))))
json_of (statuses kind id component time entries) =
    obj (head_of (type_text kind) "mId" (identity_text id) (told_of kind component time entries))
json_of (included kind received component time entries) = obj (head_of (included_text kind) "oMId" received (told_of kind component time entries))

-- the message's bytes: its text and the form feed
abbrev pub bytes_of : Message → List ℕ
bytes_of m = text_of (json_of m) ++ (0x0c ∷ [])
