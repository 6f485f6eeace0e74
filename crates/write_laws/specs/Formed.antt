-- Well-formed messages, said on their fields.
-- Assumes nothing.
use Rattle.std.specs.Prelude.{ℕ, ◌≤◌, ◌<◌, ◌≡◌, true, List, [], ◌∷◌}
use Rattle.identity.specs.Read.{SixteenBytes, Says}
use Rattle.calendar.specs.Text.{last_time}
use Rattle.names.specs.Names.{name_of, IsReason}
use Rattle.number.specs.Alphabet.{is_label}
use Rattle.number.specs.Signed.{Signed32}
use Rattle.write_message.specs.declared.AlarmState.{AlarmState}
use Rattle.write_message.specs.declared.Value.{Value}
use Rattle.write_message.specs.declared.Value.TheVariants.{Recent, Old, Unknown, Undefined}
use Rattle.write_message.specs.declared.Told.{Told}
use Rattle.write_message.specs.declared.Told.TheVariants.{Response, Command}
use Rattle.write_message.specs.Message.{Message, Status}
use Rattle.write_message.specs.Message.Message.{version, watchdog, ack, not_ack, alarm, aggregated, statuses, included}

-- 1 to 32 bytes of the table's alphabet
pub record Label (s : List ℕ) : Type 0 where
  pub label : is_label s ≡ true

-- the text of an identity, in either case
pub record Received (s : List ℕ) : Type 0 where
  pub bytes : List ℕ
  pub says : Says s bytes

pub record FormedState (s : AlarmState) : Type 0 where
  pub time : s.time ≤ last_time
  pub event : s.event ≤ 2
  pub category : s.category ≤ 1
  pub lowest : 1 ≤ s.priority
  pub highest : s.priority ≤ 3

pub data FormedValue : Value → Type 0 where
  recent : {v : _} → Signed32 v → FormedValue (Recent v)
  old : {v : _} → Signed32 v → FormedValue (Old v)
  unknown : FormedValue Unknown
  undefined : FormedValue Undefined

pub record FormedStatus (s : Status) : Type 0 where
  pub code : Label s.code
  pub name : Label s.name
  pub value : FormedValue s.value

pub data FormedStatuses : List Status → Type 0 where
  none : FormedStatuses []
  more : {s : Status} {ss : List Status} → FormedStatus s → FormedStatuses ss → FormedStatuses (s ∷ ss)

-- what answers a request, and so may carry its acknowledgement
pub data Answering : Told → Type 0 where
  a_status : Answering Response
  a_command : Answering Command

pub data Formed : Message → Type 0 where
  formed_version : {id site sxl : List ℕ} → SixteenBytes id → Label site → Label sxl → Formed (version id site sxl)
  formed_watchdog : {id : List ℕ} {time : ℕ} → SixteenBytes id → time ≤ last_time → Formed (watchdog id time)
  formed_ack : {received : List ℕ} → Received received → Formed (ack received)
  formed_not_ack : {received : List ℕ} → Received received → (reason : ℕ) → IsReason reason → Formed (not_ack received (name_of reason))
  formed_alarm : {id component code : List ℕ} {s : AlarmState} → SixteenBytes id → Label component → Label code → FormedState s → Formed (alarm id component code s)
  formed_aggregated : {id component : List ℕ} {time value : ℕ} → SixteenBytes id → Label component → time ≤ last_time → value < 256 → Formed (aggregated id component time value)
  formed_statuses : {kind : Told} {id component : List ℕ} {time : ℕ} {entries : List Status} → SixteenBytes id → Label component → time ≤ last_time → FormedStatuses entries → Formed (statuses kind id component time entries)
  formed_included : {kind : Told} {received component : List ℕ} {time : ℕ} {entries : List Status} → Answering kind → Received received → Label component → time ≤ last_time → FormedStatuses entries → Formed (included kind received component time entries)
