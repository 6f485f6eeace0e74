-- Demand 2: "No alarm or status leaves on a link before versions are agreed and watchdogs exchanged .. every request that document 01 says is
-- answered gets exactly one MessageAck or MessageNotAck, and nothing else does." Request 04: "Demand 2's one answer now reads: one MessageAck,
-- MessageNotAck or such a response."
-- Assumes nothing.
use Rattle.std.specs.Prelude.{ℕ, ◌≡◌, Bool, true, false, List, [], ◌∷◌, eqb, leb}
use Rattle.std.proofs.Math.Option.{Option, some, none}
use Rattle.basis.specs.Lists.{count, Among}
use Rattle.json_value.specs.Grammar.{Json}
use Rattle.write_message.specs.declared.Told.{Told}
use Rattle.write_message.specs.Message.{Message, Status}
use Rattle.write_message.specs.Message.Message.{version, watchdog, ack, not_ack, alarm, aggregated, statuses, included}
use Rattle.machine.specs.Words.{Bytes, ◌or◌}
use Rattle.machine.specs.State.{Start, Command, Machine, Act, Call, Outcome, life_at}
use Rattle.machine.specs.State.Act.{connect, disconnect, packet, alarm_input, status_value, aggregated_value, tick, pump}
use Rattle.machine.specs.State.Outcome.{refused, done}
use Rattle.machine.specs.Json.{read_packet, string_of}
use Rattle.machine.specs.Life.{is_up}
use Rattle.machine.specs.Answers.{is_answer, replies_at_once}
use Rattle.machine.specs.Step.{step}
use Rattle.machine.specs.Run.{Past, Run}

abbrev pub messages_of : Outcome → List Message
messages_of (refused n) = []
messages_of (done messages closed hint commands) = messages

-- the link that a call's messages go to
abbrev pub link_of : Act → Option ℕ
link_of (connect l) = some l
link_of (disconnect l) = some l
link_of (packet l random bytes room) = some l
link_of (alarm_input i active) = none
link_of (status_value i v) = none
link_of (aggregated_value v) = none
link_of tick = none
link_of (pump l random room) = some l

-- of what sort a message is: 0 of the greeting, 1 an answer, 2 Alarm, 3 AggregatedStatus, StatusResponse, StatusUpdate, CommandResponse, 4 a response
-- that carries its acknowledgement
abbrev pub sort_of : Message → ℕ
sort_of (version id site sxl) = 0
sort_of (watchdog id t) = 0
sort_of (ack id) = 1
sort_of (not_ack id reason) = 1
sort_of (alarm id component code state) = 2
sort_of (aggregated id component t v) = 3
sort_of (statuses kind id component t entries) = 3
sort_of (included kind id component t entries) = 4

abbrev pub is_told : Message → Bool
is_told w = leb 2 (sort_of w)

abbrev pub is_alarm : Message → Bool
is_alarm w = eqb (sort_of w) 2

-- MessageAck, MessageNotAck, a response that carries its acknowledgement
abbrev pub is_an_answer : Message → Bool
is_an_answer w = eqb (sort_of w) 1 or eqb (sort_of w) 4

-- one answer, first, that repeats the mId, and none behind it: to a request of request 04's types MessageNotAck or the response alone, to any other
-- packet MessageAck or MessageNotAck
pub data OneAnswer (j : Json) : List Message → Type 0 where
  acked : {ms : List Message} → replies_at_once j ≡ false → count is_an_answer ms ≡ 0 → OneAnswer j (ack (string_of "mId" j) ∷ ms)
  not_acked_lem : {ms : List Message} {reason : Bytes} → count is_an_answer ms ≡ 0 → OneAnswer j (not_ack (string_of "mId" j) reason ∷ ms)
  responded : {kind : Told} {component : Bytes} {t : ℕ} {entries : List Status} → replies_at_once j ≡ true
      → OneAnswer j (included kind (string_of "mId" j) component t entries ∷ [])

module _ (m : Machine) (c : Call) where
  pub record Telling : Type 0 where
    -- what tells an alarm or a status goes to a link that is Up: both Versions and both Watchdogs are exchanged
    pub up_first : (w : Message) → Among w (messages_of (step m c).0) → is_told w ≡ true → (l : ℕ) → link_of c.act ≡ some l → is_up (life_at m l) ≡ true
    -- a call of no link writes nothing
    pub no_link : link_of c.act ≡ none → messages_of (step m c).0 ≡ []
    -- a done packet call answers any packet but an answer once, an answer not at all; no other call answers
    pub answered : (l room : ℕ) (random bytes : Bytes) (j : Json) (ms : List Message) (closed : List ℕ) (hint : Option ℕ) (commands : List Command)
        → c.act ≡ packet l random bytes room → read_packet bytes ≡ some j → (step m c).0 ≡ done ms closed hint commands → is_answer j ≡ false → OneAnswer j ms
    pub unanswered : (l room : ℕ) (random bytes : Bytes) (j : Json) → c.act ≡ packet l random bytes room → read_packet bytes ≡ some j → is_answer j ≡ true
        → messages_of (step m c).0 ≡ []
    pub unasked : ((l room : ℕ) (random bytes : Bytes) → c.act ≡ packet l random bytes room → ⊥) → count is_an_answer (messages_of (step m c).0) ≡ 0

pub record Demand2 : Type 0 where
  pub of_every_call : (m : Machine) (c : Call) → Telling m c
  -- "a secondary supervisor gets no alarm"
  pub primary_only : (s : Start) (h : List Past) (m : Machine) → Run s h m → (c : Call) (w : Message) → Among w (messages_of (step m c).0) → is_alarm w ≡ true
      → (l : ℕ) → link_of c.act ≡ some l → m.setup.primary ≡ some l
