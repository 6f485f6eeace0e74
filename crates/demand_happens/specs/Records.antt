-- On an Up link every held record goes out, of whatever kind, on the primary and on a secondary, after so many rounds of pump and answer as
-- stand before it.
-- Assumes nothing.
use Rattle.std.specs.Prelude.{ℕ, suc, ◌+◌, ◌-◌, ◌*◌, ◌≤◌, ◌<◌, ◌≡◌, Bool, true, false, not, List, [], ◌∷◌, leb}
use Rattle.std.proofs.Math.Option.{none}
use Rattle.basis.specs.Lists.{count, Among}
use Rattle.basis.specs.Text.{text}
use Rattle.json_value.specs.Grammar.{Json}
use Rattle.write_message.specs.declared.Value.TheVariants.{Unknown}
use Rattle.write_message.specs.declared.Told.TheVariants.{Update}
use Rattle.write_message.specs.Message.{status}
use Rattle.write_message.specs.Message.Message.{aggregated, statuses}
use Rattle.machine.specs.Words.{Bytes, ◌and◌}
use Rattle.machine.specs.State.{Held, Start, Machine, life_at, Call}
use Rattle.machine.specs.State.Sent.{the_record}
use Rattle.machine.specs.State.Act.{packet, pump}
use Rattle.machine.specs.State.Outcome.{done}
use Rattle.machine.specs.Life.{is_up, pass_length}
use Rattle.machine.specs.Answers.{is_answer}
use Rattle.machine.specs.Pool.{is_for}
use Rattle.machine.specs.Messages.{record_message}
use Rattle.machine.specs.Effects.{own_identity}
use Rattle.machine.specs.Step.{step, outcomes, leaves}
use Rattle.machine.specs.Run.{Past, Run}
use Rattle.machine.specs.Example.{noon, started, own, quiet, says, alarm_now}
use Rattle.demand_happens.specs.Pumped.{at, Timely}
use Rattle.demand_happens.specs.Greeting.{Arrives, Answers}
use Rattle.demand_happens.specs.Example.{start, pasts, inputs, the_aggregated_record, holding, three_rounds, second_start, second_started, subscribes, the_status_record, updating, two_rounds}

-- "Watchdog a period or more after the last"
abbrev pub next_beat : Machine → ℕ → ℕ
next_beat m l = (life_at m l).beat + 1000 * m.setup.period

-- a pump, and an answer, MessageAck or MessageNotAck, to what it sent
pub record IsRound (l : ℕ) (m : Machine) (t room : ℕ) (random : Bytes) (s place : ℕ) (bytes : Bytes) (j : Json) : Type 0 where
  pub timely : Timely m t
  pub roomy : 4096 ≤ room
  pub arrives : Arrives (step m (at t (pump l random room))).1 s bytes place j
  pub is_answer_lem : is_answer j ≡ true
  pub answers : Answers (own_identity random) j

-- n rounds on link l; those that send a due Watchdog do not count
pub data Rounds (l : ℕ) : Machine → ℕ → List Call → Type 0 where
  over : {m : Machine} → Rounds l m 0 []
  round : {m : Machine} {n t room s place : ℕ} {random other bytes : Bytes} {j : Json} {cs : List Call} → IsRound l m t room random s place bytes j → t < next_beat m l
      → Rounds l (step (step m (at t (pump l random room))).1 (at s (packet l other bytes place))).1 n cs
      → Rounds l m (suc n) (at t (pump l random room) ∷ at s (packet l other bytes place) ∷ cs)
  beat : {m : Machine} {n t room s place : ℕ} {random other bytes : Bytes} {j : Json} {cs : List Call} → IsRound l m t room random s place bytes j → next_beat m l ≤ t
      → Rounds l (step (step m (at t (pump l random room))).1 (at s (packet l other bytes place))).1 n cs
      → Rounds l m n (at t (pump l random room) ∷ at s (packet l other bytes place) ∷ cs)

-- what is left of the first pass, and the records not sent that are no newer, this one included
abbrev pub is_before : ℕ → ℕ → Held → Bool
is_before l n h = is_for l h and not h.sent and leb h.sequence n

abbrev pub ahead : Machine → ℕ → Held → ℕ
ahead m l x = (pass_length m l - (life_at m l).pass) + count (is_before l x.sequence) m.pool.held

-- one of the calls is a pump that writes the message of the record, and an answer to it is awaited for that record
pub data GoesOut (l : ℕ) (x : Held) : Machine → List Call → Type 0 where
  at_once : {m : Machine} {t room : ℕ} {random : Bytes} {cs : List Call}
      → (step m (at t (pump l random room))).0 ≡ done (record_message m.setup.table (own_identity random) x.content ∷ []) [] none []
      → Among (record { identity = own_identity random; time = t; message = the_record x.sequence }) (life_at (step m (at t (pump l random room))).1 l).awaited
      → GoesOut l x m (at t (pump l random room) ∷ cs)
  later : {m : Machine} {c : Call} {cs : List Call} → GoesOut l x (step m c).1 cs → GoesOut l x m (c ∷ cs)

pub record Sending : Type 0 where
  pub goes_out : (s : Start) (h : List Past) (m : Machine) → Run s h m → (l : ℕ) → l < m.setup.links → is_up (life_at m l) ≡ true → (life_at m l).awaited ≡ []
      → (x : Held) → Among x m.pool.held → x.link ≡ l → x.sent ≡ false
      → (n : ℕ) (cs : List Call) → Rounds l m n cs → ahead m l x ≤ n → GoesOut l x m cs
  -- such calls, computed
  pub from_start : Run start (pasts [] (started 2) inputs) (leaves (started 2) inputs)
  pub holds_three : leaves (started 2) inputs ≡ holding
  pub is_up_lem : is_up (life_at holding 0) ≡ true
  pub rounds : Rounds 0 holding 3 three_rounds
  pub counted : ahead holding 0 the_aggregated_record ≡ 3
  pub told : outcomes holding three_rounds
      ≡ says (aggregated (own 3) (text "C0") noon 1 ∷ []) ∷ quiet
      ∷ says (alarm_now 4 0 noon false true false ∷ []) ∷ quiet
      ∷ says (aggregated (own 5) (text "C0") noon 1 ∷ []) ∷ quiet ∷ []
  -- and on a secondary
  pub second_start_lem : Run second_start (pasts [] second_started subscribes) (leaves second_started subscribes)
  pub holds_one : leaves second_started subscribes ≡ updating
  pub second_up : is_up (life_at updating 0) ≡ true
  pub second_rounds : Rounds 0 updating 2 two_rounds
  pub second_counted : ahead updating 0 the_status_record ≡ 2
  pub second_told : outcomes updating two_rounds
      ≡ says (aggregated (own 3) (text "C0") noon 0 ∷ []) ∷ quiet
      ∷ says (statuses Update (own 4) (text "C0") noon (status (text "S1") (text "release") Unknown ∷ []) ∷ []) ∷ quiet ∷ []
