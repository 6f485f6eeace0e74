-- What the site writes: the eleven written types by their fields.
-- Assumes nothing.
use Rattle.std.specs.Prelude.{ℕ, List}
use Rattle.write_message.specs.declared.AlarmState.{AlarmState}
use Rattle.write_message.specs.declared.Value.{Value}
use Rattle.write_message.specs.declared.Told.{Told}

-- one entry of a StatusResponse, a StatusUpdate or a CommandResponse; of an answer that carries its acknowledgement
pub record Status : Type 0 where
  pub code : List ℕ
  pub name : List ℕ
  pub value : Value

abbrev pub status : List ℕ → List ℕ → Value → Status
status code name value = record { code = code; name = name; value = value }

-- an identity is sixteen bytes, a time milliseconds since 1970, a reason its text;
-- the two answers, and a response that carries its acknowledgement, repeat the characters of the identity that was received
pub data Message : Type 0 where
  version : (id site sxl : List ℕ) → Message
  watchdog : (id : List ℕ) (time : ℕ) → Message
  ack : (received : List ℕ) → Message
  not_ack : (received reason : List ℕ) → Message
  alarm : (id component code : List ℕ) (state : AlarmState) → Message
  aggregated : (id component : List ℕ) (time value : ℕ) → Message
  statuses : (kind : Told) (id component : List ℕ) (time : ℕ) (entries : List Status) → Message
  included : (kind : Told) (received component : List ℕ) (time : ℕ) (entries : List Status) → Message
