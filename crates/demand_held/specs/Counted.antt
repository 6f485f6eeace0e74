-- Where a held record comes from, and which records a link's lost count counts.
-- Assumes nothing.
use Rattle.std.specs.Prelude.{ℕ, ◌+◌, Bool, ◌≡◌, List, ◌∷◌, eqb}
use Rattle.std.proofs.Math.Option.{Option, none}
use Rattle.basis.specs.Lists.{count}
use Rattle.json_value.specs.Grammar.{Json}
use Rattle.machine.specs.Words.{if'◌then◌else◌, ◌and◌, maybe}
use Rattle.machine.specs.State.{Issued, Held, Awaited, Start, Machine, Act, Call, Outcome, life_at}
use Rattle.machine.specs.State.Act.{connect, disconnect, packet, alarm_input, status_value, aggregated_value, tick, pump}
use Rattle.machine.specs.State.Outcome.{refused, done}
use Rattle.machine.specs.Json.{read_packet, string_of}
use Rattle.machine.specs.Life.{awaited_by}
use Rattle.machine.specs.Answers.{is_answer}
use Rattle.machine.specs.Pool.{is_for}
use Rattle.machine.specs.Effects.{carried}
use Rattle.machine.specs.Step.{step}
use Rattle.machine.specs.Run.{Past, past, Run}
use Rattle.machine.specs.Run.Run.{begun, begun_beside, next, other_starts, other_calls}
use Rattle.demand_held.specs.Held.{IsDone, issued_by, issues_of, At}

-- a done call of the run issued record r under number n
pub data IssuedIn (s : Start) (r : Issued) (n : ℕ) : List Past → Type 0 where
  issued_now : {h : List Past} {m : Machine} {c : Call} {k : ℕ} → Run s h m → IsDone m c → At r k (issued_by m c) → n ≡ m.pool.next + k → IssuedIn s r n (past m c ∷ h)
  issued_before : {h : List Past} {p : Past} → IssuedIn s r n h → IssuedIn s r n (p ∷ h)

-- the number of the record that the message carried which a packet on link l answers
abbrev pub answered_in : Machine → ℕ → Json → Option ℕ
answered_in m l j = if' is_answer j then maybe none (λ (a : Awaited). carried a.message) (awaited_by (life_at m l) (string_of "oMId" j)) else none

abbrev pub answered_by : Machine → ℕ → Act → Option ℕ
answered_by m l (connect k) = none
answered_by m l (disconnect k) = none
answered_by m l (packet k random bytes room) = if' eqb k l then maybe none (answered_in m l) (read_packet bytes) else none
answered_by m l (alarm_input i active) = none
answered_by m l (status_value i v) = none
answered_by m l (aggregated_value v) = none
answered_by m l tick = none
answered_by m l (pump k random room) = none

-- how many held records of link l that is: one or none
abbrev pub is_record : ℕ → ℕ → Held → Bool
is_record l n h = is_for l h and eqb h.sequence n

abbrev pub answers_of : Machine → ℕ → Act → ℕ
answers_of m l act = maybe 0 (λ n. count (is_record l n) m.pool.held) (answered_by m l act)

abbrev pub if_done : Outcome → ℕ → ℕ
if_done (refused number) n = 0
if_done (done messages closed hint commands) n = n

-- over the done calls of a run: how many records were issued for link l, and how many of them left because they were answered
abbrev pub issued_count : (l : ℕ) {s : Start} {h : List Past} {m : Machine} → Run s h m → ℕ
issued_count l (begun b) = 0
issued_count l (begun_beside b o two) = 0
issued_count l (other_starts r b two) = issued_count l r
issued_count l (other_calls r o two c) = issued_count l r
issued_count l (next {m = m} c r) = issued_count l r + if_done (step m c).0 (issues_of m l c)

abbrev pub answered_count : (l : ℕ) {s : Start} {h : List Past} {m : Machine} → Run s h m → ℕ
answered_count l (begun b) = 0
answered_count l (begun_beside b o two) = 0
answered_count l (other_starts r b two) = answered_count l r
answered_count l (other_calls r o two c) = answered_count l r
answered_count l (next {m = m} c r) = answered_count l r + if_done (step m c).0 (answers_of m l c.act)
