-- Request 01: "A value in its range is handed to the host and answered with age recent", in the order of the entries, and nothing else is.
-- Assumes nothing.
use Rattle.std.specs.Prelude.{ℕ, ◌<◌, ◌≡◌, true, false, List, [], ◌∷◌, map, length, get_or}
use Rattle.std.proofs.Math.Option.{some, none}
use Rattle.basis.specs.Lists.{Among}
use Rattle.number.specs.Signed.{at_most}
use Rattle.number.specs.Decimal.{decimal_of}
use Rattle.json_value.specs.Grammar.{Json}
use Rattle.table_whole.specs.Table.{Row, no_row, Table}
use Rattle.write_message.specs.declared.Value.TheVariants.{Recent}
use Rattle.write_message.specs.declared.Told.TheVariants.{Command as CommandResponse}
use Rattle.write_message.specs.Message.{Message, Status, status}
use Rattle.write_message.specs.Message.Message.{ack, statuses, included}
use Rattle.machine.specs.Words.{Bytes, if'◌then◌else◌}
use Rattle.machine.specs.State.{Command, Start, Machine, life_at, Call, Outcome}
use Rattle.machine.specs.State.Act.{packet}
use Rattle.machine.specs.State.Outcome.{refused, done}
use Rattle.machine.specs.Json.{read_packet, string_of, entries_of, is_included, asks_for}
use Rattle.machine.specs.Life.{is_up, is_awaited}
use Rattle.machine.specs.Effects.{own_identity}
use Rattle.machine.specs.Step.{step}
use Rattle.machine.specs.Run.{Past, Run}
use Rattle.demand_told.specs.Demand.{messages_of}
use Rattle.demand_happens.specs.Pumped.{at}
use Rattle.demand_happens.specs.Greeting.{Arrives, WellFormed}

abbrev pub commands_of : Outcome → List Command
commands_of (refused n) = []
commands_of (done messages closed hint commands) = commands

-- the row of a command
abbrev pub row_of : Table → Command → Row
row_of t x = get_or t.commands x.number no_row

-- an entry asks for this command of the component: its row is called so, and v is the shortest decimal text of a value in its range
pub record Asks (t : Table) (component : ℕ) (e : Json) (x : Command) : Type 0 where
  pub there : x.number < length t.commands
  pub of : (row_of t x).component ≡ component
  pub code : (row_of t x).code ≡ string_of "cCI" e
  pub name : (row_of t x).name ≡ string_of "n" e
  pub value : string_of "v" e ≡ decimal_of x.value
  pub lowest : at_most (row_of t x).lowest x.value ≡ true
  pub highest : at_most x.value (row_of t x).highest ≡ true

-- entry by entry
pub data InTurn (t : Table) (component : ℕ) : List Json → List Command → Type 0 where
  no_more : InTurn t component [] []
  one_more : {e : Json} {es : List Json} {x : Command} {xs : List Command} → Asks t component e x → InTurn t component es xs → InTurn t component (e ∷ es) (x ∷ xs)

-- a CommandRequest, or one whose answer carries its acknowledgement, for this component of the table, by its id
pub record For (t : Table) (j : Json) (component : ℕ) : Type 0 where
  pub typed : asks_for "CommandRequest" j ≡ true
  pub there : component < length t.components
  pub named : get_or t.components component [] ≡ string_of "cId" j

-- MessageAck and one CommandResponse that tells these values as recent, or the one response that carries it; and these handed over
abbrev pub recent : Table → Command → Status
recent t x = status (row_of t x).code (row_of t x).name (Recent x.value)

abbrev pub obeying : Table → ℕ → Bytes → Json → List Command → Outcome
obeying t time id j xs =
    done
    (if' is_included "CommandRequest" j then included CommandResponse (string_of "mId" j) (string_of "cId" j) time (map (recent t) xs) ∷ []
    else ack (string_of "mId" j) ∷ statuses CommandResponse id (string_of "cId" j) time (map (recent t) xs) ∷ [])
    [] none xs

-- the commands that a request was obeyed with
pub record Obeyed (m : Machine) (t : ℕ) (random : Bytes) (j : Json) (component : ℕ) (gave : Outcome) : Type 0 where
  pub commands : List Command
  pub in_turn : InTurn m.setup.table component (entries_of "arg" j) commands
  pub gives : gave ≡ obeying m.setup.table t (own_identity random) j commands

-- a request was acknowledged: by MessageAck, or by the response that carries it
pub data Acknowledges (m_id : Bytes) : Message → Type 0 where
  by_ack : Acknowledges m_id (ack m_id)
  by_response : {component : Bytes} {time : ℕ} {entries : List Status} → Acknowledges m_id (included CommandResponse m_id component time entries)

-- what a command was handed over for: a request for a component of the table, acknowledged
pub record Cause (m : Machine) (c : Call) : Type 0 where
  pub link : ℕ
  pub room : ℕ
  pub random : Bytes
  pub bytes : Bytes
  pub is_packet : c.act ≡ packet link random bytes room
  pub json : Json
  pub is_read : read_packet bytes ≡ some json
  pub component : ℕ
  pub asked : For m.setup.table json component
  pub answer : Message
  pub told : Among answer (messages_of (step m c).0)
  pub acknowledged : Acknowledges (string_of "mId" json) answer

pub record DemandCommands : Type 0 where
  -- on an Up link a well-formed request whose every entry asks for a command is obeyed, where a reply that is awaited follows with fewer than sixteen
  -- awaited and a fresh identity
  pub obeyed : (s : Start) (h : List Past) (m : Machine) → Run s h m → (l t room : ℕ) (random bytes : Bytes) (j : Json) (component : ℕ) (xs : List Command)
      → l < m.setup.links → is_up (life_at m l) ≡ true
      → (is_included "CommandRequest" j ≡ false → (length (life_at m l).awaited < 16) × (is_awaited (life_at m l) (own_identity random) ≡ false))
      → Arrives m t bytes room j → WellFormed j → For m.setup.table j component → InTurn m.setup.table component (entries_of "arg" j) xs
      → (step m (at t (packet l random bytes room))).0 ≡ obeying m.setup.table t (own_identity random) j xs
  -- one that is acknowledged is such
  pub acknowledged : (s : Start) (h : List Past) (m : Machine) → Run s h m → (t l room : ℕ) (random bytes : Bytes) (j : Json) (component : ℕ)
      → read_packet bytes ≡ some j → For m.setup.table j component
      → (w : Message) → Among w (messages_of (step m (at t (packet l random bytes room))).0) → Acknowledges (string_of "mId" j) w
      → Obeyed m t random j component (step m (at t (packet l random bytes room))).0
  -- and no other call hands anything over
  pub nothing_else : (m : Machine) (c : Call) (x : Command) → Among x (commands_of (step m c).0) → Cause m c
