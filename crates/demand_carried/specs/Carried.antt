-- A message that carries a record, as the calls of a history tell it. A history is LATEST FIRST.
-- Assumes nothing.
use Rattle.std.specs.Prelude.{ℕ, ◌≡◌, true, false, List, [], ◌∷◌}
use Rattle.std.proofs.Math.Option.{some, none}
use Rattle.basis.specs.Lists.{Among}
use Rattle.json_value.specs.Grammar.{Json}
use Rattle.machine.specs.Words.{Bytes}
use Rattle.machine.specs.State.{Content, issued_for, Start, Machine, Act, Call}
use Rattle.machine.specs.State.Act.{packet, pump}
use Rattle.machine.specs.State.Outcome.{done}
use Rattle.machine.specs.Json.{read_packet, string_of, is_identity_of}
use Rattle.machine.specs.Answers.{is_answer}
use Rattle.machine.specs.Messages.{record_message}
use Rattle.machine.specs.Step.{step}
use Rattle.machine.specs.Run.{Past, past, Run}
use Rattle.demand_held.specs.Held.{IsHeld}
use Rattle.demand_told.specs.Life.{opens, ends, this_life}
use Rattle.demand_told.specs.Greeted.{Came}

-- "a packet call on its link is done with a MessageAck or MessageNotAck whose oMId is" this identity
pub data AnswerCame (l : ℕ) (id : Bytes) (p : Past) : Type 0 where
  answer_came : {j : Json} → Came l j p → is_answer j ≡ true → is_identity_of id (string_of "oMId" j) ≡ true → AnswerCame l id p

-- the calls h are those of `from` and later ones: in these link l was neither opened nor closed, and no such answer came on it
pub data Unanswered (l : ℕ) (id : Bytes) (from : List Past) : List Past → Type 0 where
  at_once : Unanswered l id from from
  and_then : {p : Past} {h : List Past} → opens l p ≡ false → ends l p ≡ false → (AnswerCame l id p → ⊥) → Unanswered l id from h → Unanswered l id from (p ∷ h)

-- a message carrying record n of link l went out under this identity in this life of the link, and is not answered
pub record Carried (s : Start) (h : List Past) (l n : ℕ) (id : Bytes) : Type 0 where
  -- a pump of link l, on the machine that the calls before it left
  pub before : List Past
  pub machine : Machine
  pub run : Run s before machine
  pub call : Call
  pub random : Bytes
  pub room : ℕ
  pub pumped : call.act ≡ pump l random room
  -- was done and wrote one message: that of the record which was held under number n
  pub content : Content
  pub held : IsHeld (issued_for l content) n machine.pool.held
  pub sent : (step machine call).0 ≡ done (record_message machine.setup.table id content ∷ []) [] none []
  -- and since then
  pub since : Unanswered l id (past machine call ∷ before) h
  pub life : Among (past machine call) (this_life l h)

-- a packet is an answer to such a message
pub data AnswersCarried (s : Start) (h : List Past) (l n : ℕ) : Act → Type 0 where
  answers_carried : {random bytes : Bytes} {room : ℕ} {j : Json} {id : Bytes} → read_packet bytes ≡ some j → is_answer j ≡ true → is_identity_of id (string_of "oMId" j) ≡ true
      → Carried s h l n id → AnswersCarried s h l n (packet l random bytes room)
