-- A supervisor that follows the greeting brings a Down link to Up with nothing awaited, with any other calls in between.
-- Assumes nothing.
use Rattle.std.specs.Prelude.{ℕ, ◌≤◌, ◌<◌, ◌≡◌, Bool, true, false, List, [], ◌∷◌, length}
use Rattle.std.proofs.Math.Option.{some, none}
use Rattle.json_value.specs.Grammar.{Json}
use Rattle.write_message.specs.Message.Message.{not_ack}
use Rattle.machine.specs.Words.{Bytes, is_number, any}
use Rattle.machine.specs.State.{Start, Machine, life_at, Call}
use Rattle.machine.specs.State.Act.{connect, packet, tick, pump}
use Rattle.machine.specs.State.Outcome.{refused, done}
use Rattle.machine.specs.Json.{read_packet, string_at, element_is, is_type, is_identity_of}
use Rattle.machine.specs.Life.{is_down, is_up, is_late}
use Rattle.machine.specs.Answers.{is_readable, needs, is_missing, is_bad}
use Rattle.machine.specs.Effects.{own_identity}
use Rattle.machine.specs.Step.{step, leaves}
use Rattle.machine.specs.Run.{Past, Run}
use Rattle.machine.specs.Example.{started}
use Rattle.demand_told.specs.Demand.{link_of}
use Rattle.demand_told.specs.Greeted.{IsGoodVersion, IsTheirWatchdog}
use Rattle.demand_happens.specs.Pumped.{at, Timely}
use Rattle.demand_happens.specs.Example.{start, conversation}

-- a packet call as a host makes it, of a packet that is this JSON value
pub record Arrives (m : Machine) (t : ℕ) (bytes : Bytes) (room : ℕ) (j : Json) : Type 0 where
  pub timely : Timely m t
  pub roomy : 4096 ≤ room
  pub short : length bytes ≤ 4096
  pub reads : read_packet bytes ≡ some j

-- an answer to the message that went out under an identity
pub record Answers (id : Bytes) (j : Json) : Type 0 where
  pub marked : element_is "mType" "rSMsg" j ≡ true
  pub named : Bytes
  pub names : string_at "oMId" j ≡ some named
  pub ours : is_identity_of id named ≡ true

-- nothing that it needs is missing or bad
pub record WellFormed (j : Json) : Type 0 where
  pub marked : element_is "mType" "rSMsg" j ≡ true
  pub readable : is_readable j ≡ true
  pub complete : (older : Bool) → any (is_missing j) (needs older j) ≡ false
  pub good : (older : Bool) → any (is_bad j) (needs older j) ≡ false

-- ours of an exchange: not sent yet, sent at a time under an identity, acknowledged
pub data Ours : Type 0 where
  unsent : Ours
  sent : (id : Bytes) (time : ℕ) → Ours
  acknowledged : Ours

abbrev pub is_sent : Ours → Bool
is_sent unsent = false
is_sent (sent id time) = true
is_sent acknowledged = true

-- how far a greeting is: our Version, whether theirs is accepted, our Watchdog, whether theirs is taken
pub data Stage : Type 0 where
  down : Stage
  talking : (own_version : Ours) (their_version : Bool) (own_watchdog : Ours) (their_watchdog : Bool) → Stage

-- a call in between: refused; or of another link or none, but no tick at which one is awaited on this link for 30,000 ms or longer; or any packet
-- that is answered with MessageNotAck and closes nothing
pub data Meanwhile (l : ℕ) (m : Machine) (c : Call) : Type 0 where
  not_done : {n : ℕ} → (step m c).0 ≡ refused n → Meanwhile l m c
  elsewhere : is_number l (link_of c.act) ≡ false → (c.act ≡ tick → is_late c.time (life_at m l) ≡ false) → Meanwhile l m c
  not_acknowledged : {m_id reason : Bytes} → (step m c).0 ≡ done (not_ack m_id reason ∷ []) [] none [] → Meanwhile l m c

-- calls that follow the greeting of link l from a stage to its end
pub data Greets (l : ℕ) : Machine → Stage → List Call → Type 0 where
  greeted : {m : Machine} → Greets l m (talking acknowledged true acknowledged true) []
  meanwhile : {m : Machine} {g : Stage} {c : Call} {cs : List Call} → Meanwhile l m c → Greets l (step m c).1 g cs → Greets l m g (c ∷ cs)
  connects : {m : Machine} {t : ℕ} {cs : List Call} → Timely m t
      → Greets l (step m (at t (connect l))).1 (talking unsent false unsent false) cs → Greets l m down (at t (connect l) ∷ cs)
  our_version : {m : Machine} {t room : ℕ} {random : Bytes} {cs : List Call} → Timely m t → 4096 ≤ room
      → Greets l (step m (at t (pump l random room))).1 (talking (sent (own_identity random) t) false unsent false) cs
      → Greets l m (talking unsent false unsent false) (at t (pump l random room) ∷ cs)
  version_acknowledged : {m : Machine} {id : Bytes} {time : ℕ} {theirs : Bool} {t room : ℕ} {random bytes : Bytes} {j : Json} {cs : List Call}
      → Arrives m t bytes room j → is_type "MessageAck" j ≡ true → Answers id j
      → Greets l (step m (at t (packet l random bytes room))).1 (talking acknowledged theirs unsent false) cs
      → Greets l m (talking (sent id time) theirs unsent false) (at t (packet l random bytes room) ∷ cs)
  their_version : {m : Machine} {ours : Ours} {t room : ℕ} {random bytes : Bytes} {j : Json} {v : List ℕ} {cs : List Call} → is_sent ours ≡ true
      → Arrives m t bytes room j → WellFormed j → IsGoodVersion m v j
      → Greets l (step m (at t (packet l random bytes room))).1 (talking ours true unsent false) cs
      → Greets l m (talking ours false unsent false) (at t (packet l random bytes room) ∷ cs)
  our_watchdog : {m : Machine} {theirs : Bool} {t room : ℕ} {random : Bytes} {cs : List Call} → Timely m t → 4096 ≤ room
      → Greets l (step m (at t (pump l random room))).1 (talking acknowledged true (sent (own_identity random) t) theirs) cs
      → Greets l m (talking acknowledged true unsent theirs) (at t (pump l random room) ∷ cs)
  watchdog_acknowledged : {m : Machine} {id : Bytes} {time : ℕ} {theirs : Bool} {t room : ℕ} {random bytes : Bytes} {j : Json} {cs : List Call}
      → Arrives m t bytes room j → is_type "MessageAck" j ≡ true → Answers id j
      → Greets l (step m (at t (packet l random bytes room))).1 (talking acknowledged true acknowledged theirs) cs
      → Greets l m (talking acknowledged true (sent id time) theirs) (at t (packet l random bytes room) ∷ cs)
  -- theirs may come again
  their_watchdog : {m : Machine} {ours : Ours} {theirs : Bool} {t room : ℕ} {random bytes : Bytes} {j : Json} {cs : List Call}
      → Arrives m t bytes room j → WellFormed j → IsTheirWatchdog j
      → Greets l (step m (at t (packet l random bytes room))).1 (talking acknowledged true ours true) cs
      → Greets l m (talking acknowledged true ours theirs) (at t (packet l random bytes room) ∷ cs)

pub record Greeting : Type 0 where
  pub comes_up : (s : Start) (h : List Past) (m : Machine) → Run s h m → (l : ℕ) → l < m.setup.links → is_down (life_at m l) ≡ true
      → (cs : List Call) → Greets l m down cs → (is_up (life_at (leaves m cs) l) ≡ true) × ((life_at (leaves m cs) l).awaited ≡ [])
  -- such calls, computed
  pub from_start : Run start [] (started 2)
  pub is_down_lem : is_down (life_at (started 2) 0) ≡ true
  pub greets : Greets 0 (started 2) down conversation
  pub is_up_lem : is_up (life_at (leaves (started 2) conversation) 0) ≡ true
