-- The fields of a written message, read from its meaning by the lookups that the taken types are read by.
-- What has no such field gives some message; the claim is of the meanings of written ones.
-- Assumes nothing.
use Rattle.std.specs.Prelude.{ℕ, ◌+◌, ◌-◌, ◌*◌, Bool, List, [], ◌∷◌, eqb, ℤ, pos, negsuc, get_or, drop}
use Prim.Native.String.{String}
use Rattle.basis.specs.Pick.{pick, bit}
use Rattle.basis.specs.Text.{text}
use Rattle.basis.specs.Lists.{same_bytes}
use Rattle.calendar.specs.declared.Time.{Time}
use Rattle.calendar.specs.declared.Time.TheVariants.{Is, No}
use Rattle.calendar.specs.Read.{read_time}
use Rattle.identity.specs.Read.{read_identity}
use Rattle.number.specs.Reading.{says}
use Rattle.json_value.specs.Grammar.{Json, Jsons}
use Rattle.json_value.specs.Grammar.Json.{null, bool, num, str, arr, obj}
use Rattle.json_value.specs.Grammar.Jsons.{jnil, jcons}
use Rattle.json_find.specs.Kinds.{is_true}
use Rattle.json_find.specs.Lookup.{Found, member, element, elements_in}
use Rattle.json_find.specs.Lookup.Found.{found, missing}
use Rattle.write_message.specs.declared.AlarmState.{AlarmState}
use Rattle.write_message.specs.declared.Value.{Value}
use Rattle.write_message.specs.declared.Value.TheVariants.{Recent, Old, Unknown, Undefined}
use Rattle.write_message.specs.declared.Told.{Told}
use Rattle.write_message.specs.declared.Told.TheVariants.{Response, Update, Command}
use Rattle.write_message.specs.Message.{Message, Status}
use Rattle.write_message.specs.Message.Message.{version, watchdog, ack, not_ack, alarm, aggregated, statuses, included}

abbrev pub value_of : Found → Json
value_of (found j) = j
value_of missing = null

abbrev pub characters_of : Json → List ℕ
characters_of null = []
characters_of (bool b) = []
characters_of (num d) = []
characters_of (str d) = d
characters_of (arr js) = []
characters_of (obj ms) = []

-- the member's string
abbrev pub said : String → Json → List ℕ
said name j = characters_of (value_of (member (text name) j))

abbrev pub said_is : String → String → Json → Bool
said_is name value j = same_bytes (said name j) (text value)

abbrev pub time_of : Time → ℕ
time_of (Is ms decimals) = ms
time_of No = 0

abbrev pub time_in : String → Json → ℕ
time_in name j = time_of (read_time (said name j))

abbrev pub identity_in : Json → List ℕ
identity_in j = (read_identity (said "mId" j)).id.bytes

-- the first element of an array
abbrev pub first : String → Json → Json
first name j = value_of (element 0 (value_of (member (text name) j)))

abbrev pub event_of : List ℕ → ℕ
event_of s = pick (same_bytes s (text "Issue")) 0 (pick (same_bytes s (text "Acknowledge")) 1 2)

abbrev pub category_of : List ℕ → ℕ
category_of s = pick (same_bytes s (text "T")) 0 1

abbrev pub state_in : Json → AlarmState
state_in j = record {
  time = time_in "aTs" j;
  event = event_of (said "aSp" j);
  category = category_of (said "cat" j);
  priority = says 0 (said "pri" j);
  acknowledged = said_is "ack" "Acknowledged" j;
  active = said_is "aS" "Active" j;
  suspended = said_is "sS" "Suspended" j;
}

-- the booleans behind a number, the first highest
abbrev pub flags_in : ℕ → Jsons → ℕ
flags_in n jnil = n
flags_in n (jcons j js) = flags_in (n * 2 + bit (is_true j)) js

abbrev pub integer_of : List ℕ → ℤ
integer_of s = pick (eqb (get_or s 0 0) 45) (negsuc (says 0 (drop 1 s) - 1)) (pos (says 0 s))

abbrev pub value_in : List ℕ → Json → Value
value_in quality s =
    pick (same_bytes quality (text "recent")) (Recent (integer_of (characters_of s)))
    (pick (same_bytes quality (text "old")) (Old (integer_of (characters_of s))) (pick (same_bytes quality (text "unknown")) Unknown Undefined))

-- what an entry's code, its value and how good it is are called
abbrev pub status_in : String → String → String → Json → Status
status_in code value quality j = record { code = said code j; name = said "n" j; value = value_in (said quality j) (value_of (member (text value) j)) }

abbrev pub statuses_in : (Json → Status) → Jsons → List Status
statuses_in read jnil = []
statuses_in read (jcons j js) = read j ∷ statuses_in read js

-- and what the time and the list; behind how the message begins
abbrev pub told_in : String → String → (Json → Status) → (List ℕ → ℕ → List Status → Message) → Json → Message
told_in time list read begun j = begun (said "cId" j) (time_in time j) (statuses_in read (elements_in (value_of (member (text list) j))))

abbrev pub statuses_told : (List ℕ → ℕ → List Status → Message) → Json → Message
statuses_told begun j = told_in "sTs" "sS" (status_in "sCI" "s" "q") begun j

abbrev pub commands_told : (List ℕ → ℕ → List Status → Message) → Json → Message
commands_told begun j = told_in "cTS" "rvs" (status_in "cCI" "v" "age") begun j

abbrev pub fields_of : Json → Message
fields_of j =
    pick (said_is "type" "Version" j) (version (identity_in j) (said "sId" (first "siteId" j)) (said "SXL" j))
    (pick (said_is "type" "Watchdog" j) (watchdog (identity_in j) (time_in "wTs" j))
    (pick (said_is "type" "MessageAck" j) (ack (said "oMId" j))
    (pick (said_is "type" "MessageNotAck" j) (not_ack (said "oMId" j) (said "rea" j))
    (pick (said_is "type" "Alarm" j) (alarm (identity_in j) (said "cId" j) (said "aCId" j) (state_in j))
    (pick (said_is "type" "AggregatedStatus" j) (aggregated (identity_in j) (said "cId" j) (time_in "aSTS" j) (flags_in 0 (elements_in (value_of (member (text "se") j)))))
    (pick (said_is "type" "StatusResponse" j) (statuses_told (statuses Response (identity_in j)) j)
    (pick (said_is "type" "StatusUpdate" j) (statuses_told (statuses Update (identity_in j)) j)
    (pick (said_is "type" "CommandResponse" j) (commands_told (statuses Command (identity_in j)) j)
    (pick (said_is "type" "StatusResponseAckIncluded" j) (statuses_told (included Response (said "oMId" j)) j)
    (commands_told (included Command (said "oMId" j)) j))))))))))
