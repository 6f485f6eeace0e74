-- Document 01: the messages that tell an alarm, the aggregated status, a record, and the answers to a StatusRequest and a CommandRequest.
-- Assumes nothing.
use Rattle.std.specs.Prelude.{ℕ, Bool, false, List, [], ◌∷◌, map, ℤ}
use Rattle.std.proofs.Math.Option.{Option, some, none}
use Rattle.json_value.specs.Grammar.{Json}
use Rattle.table_whole.specs.Table.{Row, Table}
use Rattle.write_message.specs.declared.AlarmState.{AlarmState}
use Rattle.write_message.specs.declared.Value.{Value}
use Rattle.write_message.specs.declared.Value.TheVariants.{Recent, Old, Unknown, Undefined}
use Rattle.write_message.specs.declared.Told.TheVariants.{Response, Update, Command}
use Rattle.write_message.specs.Message.{Message, Status, status}
use Rattle.write_message.specs.Message.Message.{alarm, aggregated, statuses, included}
use Rattle.machine.specs.Words.{Bytes, if'◌then◌else◌, maybe}
use Rattle.machine.specs.State.{event_number, Alarm, Content, Machine, value_at}
use Rattle.machine.specs.State.Content.{of_alarm, of_status, of_aggregated}
use Rattle.machine.specs.Json.{string_of, entries_of, is_included}
use Rattle.machine.specs.Table.{component_text, alarm_row, status_row}
use Rattle.machine.specs.Answers.{component_asked, value_asked}
use Rattle.machine.specs.Items.{number_asked}

-- "Messages carry their record's time, else AggregatedStatus that of the last change, StatusResponse the call's."
abbrev pub state_of : Row → Alarm → AlarmState
state_of r a =
    record {
      time = a.time;
      event = event_number a.event;
      category = r.category;
      priority = r.priority;
      acknowledged = a.acknowledged;
      active = a.active;
      suspended = a.suspended;
    }

abbrev pub alarm_message : Table → Bytes → ℕ → Alarm → Message
alarm_message t id i a = alarm id (component_text t (alarm_row t i).component) (alarm_row t i).code (state_of (alarm_row t i) a)

-- "Component 0 carries the aggregated status."
abbrev pub aggregated_message : Table → Bytes → ℕ → ℕ → Message
aggregated_message t id v time = aggregated id (component_text t 0) time v

-- "A status without a value so far: `s` null, `q` unknown. Otherwise `s` is the shortest decimal text, `q` recent", or old of a record
-- that is old
abbrev pub value_of : Bool → Option ℤ → Value
value_of old none = Unknown
value_of old (some v) = if' old then Old v else Recent v

abbrev pub record_message : Table → Bytes → Content → Message
record_message t id (of_alarm i a) = alarm_message t id i a
record_message t id (of_status i v old time) =
    statuses Update id (component_text t (status_row t i).component) time (status (status_row t i).code (status_row t i).name (value_of old v) ∷ [])
record_message t id (of_aggregated v time) = aggregated_message t id v time

-- "An unknown component in StatusRequest is answered with `s` null, `q` undefined (000)."
abbrev pub answer_entry : Machine → Json → Json → Status
answer_entry m j e =
    status (string_of "sCI" e) (string_of "n" e) (maybe Undefined (λ c. value_of false (value_at m (number_asked m j e))) (component_asked m j))

abbrev pub answer_entries : Machine → Json → List Status
answer_entries m j = map (answer_entry m j) (entries_of "sS" j)

abbrev pub response_message : Machine → ℕ → Bytes → Json → Message
response_message m t id j = statuses Response id (string_of "cId" j) t (answer_entries m j)

-- request 01: "A value in its range is .. answered with age recent; an unknown component is answered with age undefined and v null"
abbrev pub command_entry : Machine → Json → Json → Status
command_entry m j e = status (string_of "cCI" e) (string_of "n" e) (maybe Undefined (λ c. Recent (value_asked e)) (component_asked m j))

abbrev pub command_entries : Machine → Json → List Status
command_entries m j = map (command_entry m j) (entries_of "arg" j)

abbrev pub command_message : Machine → ℕ → Bytes → Json → Message
command_message m t id j = statuses Command id (string_of "cId" j) t (command_entries m j)

-- request 04: "one response with oMId equal to the request's mId and no identity of its own"; its entries are those of the old types
abbrev pub included_message : Machine → ℕ → Json → Message
included_message m t j =
    if' is_included "CommandRequest" j then included Command (string_of "mId" j) (string_of "cId" j) t (command_entries m j)
    else included Response (string_of "mId" j) (string_of "cId" j) t (answer_entries m j)
