-- Request 04: "A good request gets one response with oMId equal to the request's mId and no identity of its own; nobody acknowledges it, so it takes no
-- awaited place and is never "Busy". A bad request still gets MessageNotAck." "Say once for all four types what they share with the old ones."
-- Assumes nothing.
use Rattle.std.specs.Prelude.{ℕ, ◌≤◌, ◌≡◌, true, false, List, [], ◌∷◌, length}
use Prim.Native.String.{String}
use Rattle.std.proofs.Math.Option.{Option, some, none}
use Rattle.basis.specs.Lists.{same_bytes}
use Rattle.basis.specs.Text.{text}
use Rattle.json_value.specs.Grammar.{Json}
use Rattle.write_message.specs.declared.Told.{Told}
use Rattle.write_message.specs.Message.{Message, Status}
use Rattle.write_message.specs.Message.Message.{ack, not_ack, statuses, included}
use Rattle.machine.specs.Words.{Bytes}
use Rattle.machine.specs.State.{Command, Start, Machine, life_at, Call, Outcome}
use Rattle.machine.specs.State.Act.{packet}
use Rattle.machine.specs.State.Outcome.{refused, done}
use Rattle.machine.specs.Json.{read_packet, string_of, element, is_type, is_included}
use Rattle.machine.specs.Answers.{replies_at_once}
use Rattle.machine.specs.Step.{step}
use Rattle.machine.specs.Run.{Past, Run}

-- a StatusRequest or a CommandRequest, and the same with AckIncluded behind its type
pub data Named : String → Type 0 where
  status_request : Named "StatusRequest"
  command_request : Named "CommandRequest"

pub record AlikeBut (name : String) (old new : Json) : Type 0 where
  pub old_type : is_type name old ≡ true
  pub new_type : is_included name new ≡ true
  pub others : (other : String) → same_bytes (text other) (text "type") ≡ false → element other new ≡ element other old

-- what the two calls give: the same number, the same MessageNotAck, or the same entries and the same commands; where the old one is "Busy" or its
-- identity is awaited the new one is answered
pub data Shared (m_id : Bytes) : Outcome → Outcome → Type 0 where
  both_refused : {n : ℕ} → Shared m_id (refused n) (refused n)
  both_not_acked : {reason : Bytes} → Shared m_id (done (not_ack m_id reason ∷ []) [] none []) (done (not_ack m_id reason ∷ []) [] none [])
  both_answered : {kind : Told} {id component : Bytes} {t : ℕ} {entries : List Status} {commands : List Command}
      → Shared m_id (done (ack m_id ∷ statuses kind id component t entries ∷ []) [] none commands) (done (included kind m_id component t entries ∷ []) [] none commands)
  one_busy : {kind : Told} {component : Bytes} {t : ℕ} {entries : List Status} {commands : List Command}
      → Shared m_id (done (not_ack m_id (text "Busy") ∷ []) [] none []) (done (included kind m_id component t entries ∷ []) [] none commands)
  one_awaited : {kind : Told} {component : Bytes} {t : ℕ} {entries : List Status} {commands : List Command}
      → Shared m_id (refused 9) (done (included kind m_id component t entries ∷ []) [] none commands)

abbrev pub packet_at : ℕ → ℕ → Bytes → Bytes → ℕ → Call
packet_at t l random bytes room = record { time = t; act = packet l random bytes room }

pub record DemandIncluded : Type 0 where
  -- one machine, link, time and random bytes, two packets that are alike but for the ending
  pub shared : (s : Start) (h : List Past) (m : Machine) → Run s h m → (t l room : ℕ) (random bytes bytes' : Bytes) (name : String) (j j' : Json) → Named name
      → read_packet bytes ≡ some j → read_packet bytes' ≡ some j' → AlikeBut name j j' → length bytes ≤ 4096 → length bytes' ≤ 4096
      → Shared (string_of "mId" j) (step m (packet_at t l random bytes room)).0 (step m (packet_at t l random bytes' room)).0
  -- what a link awaits stays as it was, on every link
  pub unawaited : (m : Machine) (t l room : ℕ) (random bytes : Bytes) (j : Json) → read_packet bytes ≡ some j → replies_at_once j ≡ true
      → (k : ℕ) → (life_at (step m (packet_at t l random bytes room)).1 k).awaited ≡ (life_at m k).awaited
  -- "takes no awaited place and is never "Busy""; no number 9
  pub never_busy : (m : Machine) (t l room : ℕ) (random bytes : Bytes) (j : Json) → read_packet bytes ≡ some j → replies_at_once j ≡ true
      → (ms : List Message) (closed : List ℕ) (hint : Option ℕ) (commands : List Command)
      → (step m (packet_at t l random bytes room)).0 ≡ done (not_ack (string_of "mId" j) (text "Busy") ∷ ms) closed hint commands → ⊥
  pub never_nine : (m : Machine) (t l room : ℕ) (random bytes : Bytes) (j : Json) → read_packet bytes ≡ some j → replies_at_once j ≡ true
      → (step m (packet_at t l random bytes room)).0 ≡ refused 9 → ⊥
