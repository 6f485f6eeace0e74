-- Document 01, "Which packets are answered": on the packet's JSON value.
-- Assumes nothing.
use Rattle.std.specs.Prelude.{ℕ, Bool, true, false, not, List, [], ◌∷◌, ltb, leb, ℤ, pos, length}
use Prim.Native.String.{String}
use Rattle.std.proofs.Math.Option.{Option, some, none}
use Rattle.basis.specs.Text.{text}
use Rattle.number.specs.Signed.{at_most}
use Rattle.number.specs.Alphabet.{is_label}
use Rattle.json_value.specs.Grammar.{Json}
use Rattle.table_whole.specs.Table.{Row}
use Rattle.machine.specs.Words.{Bytes, if'◌then◌else◌, ◌and◌, ◌or◌, reads, maybe, is_some, or_else, is_number, any, Case, ◌when◌, first_of}
use Rattle.machine.specs.State.{Life, Machine, life_at}
use Rattle.machine.specs.Json.{shape, element, string_at, string_of, boolean_of, entries_of, element_is, is_type, is_included, asks_for, is_identity, number_in, integer_in, version_in, time_in}
use Rattle.machine.specs.Table.{component_of, alarm_number, status_number, command_number, command_row}
use Rattle.machine.specs.Life.{is_greeting, is_beating, is_primary, common, is_older, names_site, equal_sxl, awaited_by}

-- ---- "Ignored (1)"
abbrev pub is_answer : Json → Bool
is_answer j = is_type "MessageAck" j or is_type "MessageNotAck" j

abbrev pub awaited_here : Life → Json → Bool
awaited_here k j = maybe false (λ s. is_some (awaited_by k s)) (string_at "oMId" j)

abbrev pub is_readable : Json → Bool
is_readable j = maybe false is_identity (string_at "mId" j)

-- "bad JSON; type MessageAck or MessageNotAck whose mType is not rSMsg or whose oMId is not awaited on this link; any other packet
-- without a readable mId; in Greeting, all but type Version and the two answers"
unfoldable pub is_ignored : Life → Option Json → Bool
is_ignored k none = true
is_ignored k (some j) =
    if' is_answer j then not (element_is "mType" "rSMsg" j and awaited_here k j)
    else not (is_readable j) or (is_greeting k and not (is_type "Version" j))

-- ---- "Needed besides mType, type and mId"
-- an element is a string that passes, or a boolean: "A wrong JSON kind is "Bad value"."
pub data Kind : Type 0 where
  a_string : (Bytes → Bool) → Kind
  a_boolean : Kind

pub record Element : Type 0 where
  pub name : String
  pub kind : Kind

abbrev pub ◌is◌ : String → Kind → Element
◌is◌ name kind = record { name = name; kind = kind }

-- an element; or a list of entries, each with elements and as a whole passing
pub data Need : Type 0 where
  one : Element → Need
  entries : String → List Element → (Json → Bool) → Need

infix 75 ◌is◌
abbrev pub is_word : List String → Bytes → Bool
is_word words s = any (λ w. reads w s) words

-- "uRt is decimal text, seconds 0 to 86400 without leading zeros, sOc a boolean; 0 with false is "Bad value"."
abbrev pub interval : Json → Option ℕ
interval e = number_in 86400 (string_of "uRt" e)

-- request 07, on a link of the edition before: "a subscription has no sOc; uRt 0 means send on change and any other number means by
-- interval only"
abbrev pub asks_change : Bool → Json → Bool
asks_change older e = if' older then is_number 0 (interval e) else boolean_of "sOc" e

abbrev pub asks_never : Bool → Json → Bool
asks_never older e = is_number 0 (interval e) and not (asks_change older e)

abbrev pub label : Kind
label = a_string is_label  -- "Used strings other than identities and times: 1 to 32 bytes of the table's alphabet."

abbrev pub asked : List Element
asked = "sCI" is label ∷ "n" is label ∷ []

abbrev pub subscribed : Bool → List Element
subscribed older =
    "sCI" is label ∷ "n" is label ∷ "uRt" is a_string (λ s. is_some (number_in 86400 s)) ∷ (if' older then [] else "sOc" is a_boolean ∷ [])

-- request 01: "each entry needs cCI, n, cO (any used string) and v, shortest decimal text"
abbrev pub commanded : List Element
commanded = "cCI" is label ∷ "n" is label ∷ "cO" is label ∷ "v" is a_string (λ s. is_some (integer_in s)) ∷ []

abbrev pub any_entry : Json → Bool
any_entry e = true

unfoldable pub needs : Bool → Json → List Need
needs older j =
    if' is_type "Version" j then
    entries "RSMP" ("vers" is a_string (λ s. is_some (version_in s)) ∷ []) any_entry
    ∷ entries "siteId" ("sId" is label ∷ []) any_entry
    ∷ one ("SXL" is label) ∷ []
    else if' is_type "Watchdog" j then one ("wTs" is a_string (λ s. is_some (time_in s))) ∷ []
    else if' is_type "Alarm" j then
    one ("cId" is label) ∷ one ("aCId" is label)
    ∷ one ("aSp" is a_string (is_word ("Request" ∷ "Acknowledge" ∷ "Suspend" ∷ "Resume" ∷ []))) ∷ []
    else if' is_type "AggregatedStatusRequest" j then one ("cId" is label) ∷ []
    else if' is_type "StatusSubscribe" j then one ("cId" is label) ∷ entries "sS" (subscribed older) (λ e. not (asks_never older e)) ∷ []
    else if' asks_for "CommandRequest" j then one ("cId" is label) ∷ entries "arg" commanded any_entry ∷ []
    else one ("cId" is label) ∷ entries "sS" asked any_entry ∷ []

abbrev pub is_object : Json → Bool
is_object j = is_some (shape j).members

abbrev pub lacks : Json → List Element → Bool
lacks j es = any (λ e. not (is_some (element e.name j))) es

abbrev pub fits : Kind → Json → Bool
fits (a_string good) j = maybe false good (shape j).string
fits a_boolean j = is_some (shape j).boolean

abbrev pub spoils : Json → List Element → Bool
spoils j es = any (λ e. maybe false (λ v. not (fits e.kind v)) (element e.name j)) es

-- "Missing element" anywhere, in entries that are objects too
abbrev pub is_missing : Json → Need → Bool
is_missing j (one e) = lacks j (e ∷ [])
is_missing j (entries name es good) = not (is_some (element name j)) or any (λ x. is_object x and lacks x es) (entries_of name j)

-- "At most 16 entries in `sS`, 16 in Version's lists"; "`arg` keeps the limits of `sS`"
abbrev pub bad_entries : List Element → (Json → Bool) → List Json → Bool
bad_entries es good xs = ltb 16 (length xs) or any (λ x. not (is_object x) or spoils x es or not (good x)) xs

abbrev pub is_bad : Json → Need → Bool
is_bad j (one e) = spoils j (e ∷ [])
is_bad j (entries name es good) = maybe false (λ v. maybe true (bad_entries es good) (shape v).entries) (element name j)

-- ---- what a packet asks for in the table
abbrev pub component_asked : Machine → Json → Option ℕ
component_asked m j = component_of m.setup.table (string_of "cId" j)

abbrev pub alarm_asked : Machine → Json → Option ℕ
alarm_asked m j = maybe none (λ c. alarm_number m.setup.table c (string_of "aCId" j)) (component_asked m j)

abbrev pub status_asked : Machine → Json → Json → Option ℕ
status_asked m j e = maybe none (λ c. status_number m.setup.table c (string_of "sCI" e) (string_of "n" e)) (component_asked m j)

abbrev pub command_asked : Machine → Json → Json → Option ℕ
command_asked m j e = maybe none (λ c. command_number m.setup.table c (string_of "cCI" e) (string_of "n" e)) (component_asked m j)

abbrev pub value_asked : Json → ℤ
value_asked e = or_else (pos 0) (integer_in (string_of "v" e))

abbrev pub is_status_type : Json → Bool
is_status_type j = asks_for "StatusRequest" j or is_type "StatusSubscribe" j or is_type "StatusUnsubscribe" j

-- "in AggregatedStatusRequest every component but 0 is "Unknown component""
abbrev pub unknown_component : Machine → Json → Bool
unknown_component m j =
    (is_type "Alarm" j and not (is_some (component_asked m j)))
    or (is_type "AggregatedStatusRequest" j and not (is_number 0 (component_asked m j)))

abbrev pub unknown_alarm : Machine → Json → Bool
unknown_alarm m j = is_type "Alarm" j and not (is_some (alarm_asked m j))

-- "An unknown component in StatusRequest is answered with `s` null, `q` undefined (000); in the other status types it is
-- "Unknown status"."
abbrev pub unknown_status : Machine → Json → Bool
unknown_status m j =
    if' is_some (component_asked m j) then is_status_type j and any (λ e. not (is_some (status_asked m j e))) (entries_of "sS" j)
    else is_type "StatusSubscribe" j or is_type "StatusUnsubscribe" j

-- "a value outside its range is "Bad value"", of a command that is there
abbrev pub in_range : Row → ℤ → Bool
in_range r v = at_most r.lowest v and at_most v r.highest

abbrev pub out_of_range : Machine → Json → Bool
out_of_range m j =
    asks_for "CommandRequest" j
    and any (λ e. maybe false (λ i. not (in_range (command_row m.setup.table i) (value_asked e))) (command_asked m j e)) (entries_of "arg" j)

-- "an unknown component is answered with age undefined and v null"; of a known one every entry is a command
abbrev pub unknown_command : Machine → Json → Bool
unknown_command m j =
    asks_for "CommandRequest" j and is_some (component_asked m j) and any (λ e. not (is_some (command_asked m j e))) (entries_of "arg" j)

-- "Request from the primary is answered"; AggregatedStatusRequest, StatusRequest and CommandRequest are, on every link
abbrev pub wants_reply : Machine → ℕ → Json → Bool
wants_reply m l j =
    (is_type "Alarm" j and element_is "aSp" "Request" j and is_primary m l)
    or is_type "AggregatedStatusRequest" j or is_type "StatusRequest" j or is_type "CommandRequest" j

-- request 04: the response is itself the answer, under no identity of ours: `wants_reply`, and so "Busy" and number 9, is not of these
abbrev pub replies_at_once : Json → Bool
replies_at_once j = is_included "StatusRequest" j or is_included "CommandRequest" j

-- "Taken: Version, Watchdog, both answers, Alarm, AggregatedStatusRequest, StatusRequest, StatusSubscribe, StatusUnsubscribe." And CommandRequest
abbrev pub is_taken : Json → Bool
is_taken j =
    is_type "Version" j or is_type "Watchdog" j or is_type "Alarm" j or is_type "AggregatedStatusRequest" j or is_status_type j
    or asks_for "CommandRequest" j

-- "type missing, no string or not taken, Version before ours went out or after theirs was accepted"
abbrev pub is_unexpected : Life → Json → Bool
is_unexpected k j =
    not (is_taken j) or (is_type "Version" j and (not k.versions.sent or k.versions.taken))

-- ---- "Reasons, first that applies"
unfoldable pub reasons : Machine → ℕ → Json → List (Case String)
reasons m l j =
    let k = life_at m l in
    "Missing element" when not (is_some (element "mType" j))
    ∷ "Bad value" when not (element_is "mType" "rSMsg" j)
    ∷ "Unexpected" when is_unexpected k j
    ∷ "Not ready" when (is_beating k and not (is_type "Watchdog" j))
    ∷ "Missing element" when any (is_missing j) (needs (is_older k) j)
    ∷ "Bad value" when any (is_bad j) (needs (is_older k) j)
    ∷ "Bad value" when out_of_range m j
    ∷ "RSMP version" when (is_type "Version" j and not (is_some (common j)))
    ∷ "Site id" when (is_type "Version" j and not (names_site m j))
    ∷ "SXL version" when (is_type "Version" j and not (equal_sxl m j))
    ∷ "Unknown component" when unknown_component m j
    ∷ "Unknown alarm" when unknown_alarm m j
    ∷ "Unknown status" when unknown_status m j
    ∷ "Unknown command" when unknown_command m j
    ∷ "Busy" when (wants_reply m l j and leb 16 (length k.awaited))
    ∷ []

abbrev pub reason_of : Machine → ℕ → Json → Option String
reason_of m l j = first_of (reasons m l j)

-- "A failure of these three sends MessageNotAck and closes the link."
abbrev pub fails_check : String → Bool
fails_check reason = is_word ("RSMP version" ∷ "Site id" ∷ "SXL version" ∷ []) (text reason)
