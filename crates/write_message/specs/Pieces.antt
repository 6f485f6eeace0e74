-- The pieces that the writers put, one behind the other: values, and all constant text from one value to the next. They need not be believed: the law `whole` says that together they are the message's bytes.
-- Assumes nothing.
use Rattle.std.specs.Prelude.{ℕ, ◌/◌, ◌%◌, Bool, true, false, List, [], ◌∷◌, ◌++◌, eqb, ℤ}
use Rattle.basis.specs.Pick.{pick}
use Rattle.basis.specs.Text.{text}
use Rattle.identity.specs.Text.{identity_text}
use Rattle.number.specs.Decimal.{digits, decimal_of}
use Rattle.write_member.specs.Member.{moment_text}
use Rattle.write_message.specs.declared.AlarmState.{AlarmState}
use Rattle.write_message.specs.declared.Value.{Value}
use Rattle.write_message.specs.declared.Value.TheVariants.{Recent, Old, Unknown, Undefined}
use Rattle.write_message.specs.declared.Told.{Told}
use Rattle.write_message.specs.declared.Told.TheVariants.{Response, Update, Command}
use Rattle.write_message.specs.Message.{Message, Status}
use Rattle.write_message.specs.Message.Message.{version, watchdog, ack, not_ack, alarm, aggregated, statuses, included}
use Rattle.write_message.specs.Listing.{type_text, included_text}

unfoldable pub head_pieces : List ℕ → List ℕ → List ℕ → List (List ℕ)
head_pieces type before id = text "{\"mType\":\"rSMsg\",\"type\":\"" ∷ type ∷ before ∷ id ∷ []

unfoldable pub own_pieces : List ℕ → List ℕ → List (List ℕ)
own_pieces type id = head_pieces type (text "\",\"mId\":\"") (identity_text id)

unfoldable pub component_pieces : List ℕ → List (List ℕ)
component_pieces component = text "\",\"ntsOId\":\"\",\"xNId\":\"\",\"cId\":\"" ∷ component ∷ []

unfoldable pub about_pieces : List ℕ → List ℕ → List ℕ → List (List ℕ)
about_pieces type id component = own_pieces type id ++ component_pieces component

abbrev pub closing : List (List ℕ)
closing = text "\"}\u{c}" ∷ []

-- aSp with what goes before it
abbrev pub event_piece : ℕ → List ℕ
event_piece e =
    pick (eqb e 0) (text "\",\"xACId\":\"\",\"xNACId\":\"\",\"aSp\":\"Issue")
    (pick (eqb e 1) (text "\",\"xACId\":\"\",\"xNACId\":\"\",\"aSp\":\"Acknowledge") (text "\",\"xACId\":\"\",\"xNACId\":\"\",\"aSp\":\"Suspend"))

unfoldable pub state_pieces : AlarmState → List (List ℕ)
state_pieces s =
    event_piece s.event
    ∷ pick s.acknowledged (text "\",\"ack\":\"Acknowledged") (text "\",\"ack\":\"notAcknowledged")
    ∷ pick s.active (text "\",\"aS\":\"Active") (text "\",\"aS\":\"inActive")
    ∷ pick s.suspended (text "\",\"sS\":\"Suspended") (text "\",\"sS\":\"notSuspended")
    ∷ []

unfoldable pub rest_pieces : AlarmState → List (List ℕ)
rest_pieces s =
    text "\",\"aTs\":\""
    ∷ moment_text s.time
    ∷ pick (eqb s.category 0) (text "\",\"cat\":\"T\",\"pri\":\"") (text "\",\"cat\":\"D\",\"pri\":\"")
    ∷ digits s.priority
    ∷ text "\",\"rvs\":[]}\u{c}"
    ∷ []

abbrev pub flag_piece : ℕ → ℕ → List ℕ
flag_piece v p = pick (eqb (v / p % 2) 1) (text "true,") (text "false,")

unfoldable pub high_pieces : ℕ → List (List ℕ)
high_pieces v = flag_piece v 128 ∷ flag_piece v 64 ∷ flag_piece v 32 ∷ flag_piece v 16 ∷ []

unfoldable pub low_pieces : ℕ → List (List ℕ)
low_pieces v = flag_piece v 8 ∷ flag_piece v 4 ∷ flag_piece v 2 ∷ pick (eqb (v / 1 % 2) 1) (text "true]}\u{c}") (text "false]}\u{c}") ∷ []

-- what stands in a StatusResponse or a StatusUpdate, and what in a CommandResponse
unfoldable pub by_kind : Told → List ℕ → List ℕ → List ℕ
by_kind Response status command = status
by_kind Update status command = status
by_kind Command status command = command

-- a StatusResponse, StatusUpdate or CommandResponse: up to its entries, an entry, what follows them
unfoldable pub told_pieces : Told → List ℕ → ℕ → List (List ℕ)
told_pieces kind component time =
    component_pieces component
    ++ (by_kind kind (text "\",\"sTs\":\"") (text "\",\"cTS\":\"") ∷ moment_text time ∷ by_kind kind (text "\",\"sS\":[") (text "\",\"rvs\":[") ∷ [])

unfoldable pub status_head : Told → List ℕ → List ℕ → ℕ → List (List ℕ)
status_head kind id component time = own_pieces (type_text kind) id ++ told_pieces kind component time

-- .. of a response that carries its acknowledgement
unfoldable pub included_head : Told → List ℕ → List ℕ → ℕ → List (List ℕ)
included_head kind received component time = head_pieces (included_text kind) (text "\",\"oMId\":\"") received ++ told_pieces kind component time

abbrev pub entry_start : Told → Bool → List ℕ
entry_start kind first =
    pick first (by_kind kind (text "{\"sCI\":\"") (text "{\"cCI\":\"")) (by_kind kind (text ",{\"sCI\":\"") (text ",{\"cCI\":\""))

-- a value, and how good it is in the words for a status or for a command
abbrev pub known_pieces : Told → ℤ → List ℕ → List ℕ → List (List ℕ)
known_pieces kind v status command = by_kind kind (text "\",\"s\":\"") (text "\",\"v\":\"") ∷ decimal_of v ∷ by_kind kind status command ∷ []

unfoldable pub value_pieces : Told → Value → List (List ℕ)
value_pieces kind (Recent v) = known_pieces kind v (text "\",\"q\":\"recent\"}") (text "\",\"age\":\"recent\"}")
value_pieces kind (Old v) = known_pieces kind v (text "\",\"q\":\"old\"}") (text "\",\"age\":\"old\"}")
value_pieces kind Unknown = by_kind kind (text "\",\"s\":null,\"q\":\"unknown\"}") (text "\",\"v\":null,\"age\":\"unknown\"}") ∷ []
value_pieces kind Undefined = by_kind kind (text "\",\"s\":null,\"q\":\"undefined\"}") (text "\",\"v\":null,\"age\":\"undefined\"}") ∷ []

unfoldable pub entry_pieces : Told → Bool → Status → List (List ℕ)
entry_pieces kind first s = entry_start kind first ∷ s.code ∷ text "\",\"n\":\"" ∷ s.name ∷ value_pieces kind s.value

unfoldable pub entries_pieces : Told → Bool → List Status → List (List ℕ)
entries_pieces kind first [] = []
entries_pieces kind first (s ∷ ss) = entry_pieces kind first s ++ entries_pieces kind false ss

abbrev pub status_tail : List (List ℕ)
status_tail = text "]}\u{c}" ∷ []

unfoldable pub pieces : Message → List (List ℕ)
pieces (version id site sxl) =
    own_pieces (text "Version") id
    ++ (text "\",\"RSMP\":[{\"vers\":\"3.1.4\"},{\"vers\":\"3.1.5\"},{\"vers\":\"3.2\"}],\"siteId\":[{\"sId\":\"" ∷ site ∷ text "\"}],\"SXL\":\"" ∷ sxl ∷ [])
    ++ closing
pieces (watchdog id time) = own_pieces (text "Watchdog") id ++ (text "\",\"wTs\":\"" ∷ moment_text time ∷ []) ++ closing
pieces (ack received) = head_pieces (text "MessageAck") (text "\",\"oMId\":\"") received ++ closing
pieces (not_ack received reason) = head_pieces (text "MessageNotAck") (text "\",\"oMId\":\"") received ++ (text "\",\"rea\":\"" ∷ reason ∷ []) ++ closing
pieces (alarm id component code s) = about_pieces (text "Alarm") id component ++ (text "\",\"aCId\":\"" ∷ code ∷ []) ++ state_pieces s ++ rest_pieces s
pieces (aggregated id component time value) =
    about_pieces (text "AggregatedStatus") id component
    ++ (text "\",\"aSTS\":\"" ∷ moment_text time ∷ text "\",\"fP\":\"\",\"fS\":\"\",\"se\":[" ∷ [])
    ++ high_pieces value
    ++ low_pieces value
pieces (statuses kind id component time entries) = status_head kind id component time ++ entries_pieces kind true entries ++ status_tail
pieces (included kind received component time entries) = included_head kind received component time ++ entries_pieces kind true entries ++ status_tail
