-- What can become of a held record.
-- Assumes nothing.
use Rattle.std.specs.Prelude.{ℕ, suc, ◌+◌, ◌≤◌, ◌<◌, ◌≡◌, true, List, [], ◌∷◌, eqb, ltb, length}
use Rattle.std.proofs.Math.Option.{Option, some, none}
use Rattle.basis.specs.Lists.{count, Among}
use Rattle.json_value.specs.Grammar.{Json}
use Rattle.write_message.specs.Message.{Message}
use Rattle.machine.specs.Words.{Bytes, ◌and◌}
use Rattle.machine.specs.State.{Issued, Held, Command, Awaited, Machine, Act, Call, life_at}
use Rattle.machine.specs.State.Act.{connect, disconnect, packet, alarm_input, status_value, aggregated_value, tick, pump}
use Rattle.machine.specs.State.Outcome.{done}
use Rattle.machine.specs.Json.{read_packet, string_of}
use Rattle.machine.specs.Life.{awaited_by}
use Rattle.machine.specs.Answers.{is_answer}
use Rattle.machine.specs.Pool.{is_for, holds}
use Rattle.machine.specs.Effects.{carried, effect_of}
use Rattle.machine.specs.Step.{step}
use Rattle.machine.specs.Box.{Box, site_of, Turn, turned, turned_all}
use Rattle.machine.specs.Box.Turn.{starts, calls}

-- the record r, issued under number n, is held
pub data IsHeld (r : Issued) (n : ℕ) (hs : List Held) : Type 0 where
  held : {h : Held} → Among h hs → h.link ≡ r.link → h.content ≡ r.content → h.sequence ≡ n → IsHeld r n hs

-- how many newer ones of link l are; no number stands twice, so that they are other records
abbrev pub newer : ℕ → ℕ → List Held → ℕ
newer l n hs = count (λ (h : Held). is_for l h and ltb n h.sequence) hs

pub data IsDone (m : Machine) (c : Call) : Type 0 where
  is_done : {messages : List Message} {closed : List ℕ} {hint : Option ℕ} {commands : List Command} → (step m c).0 ≡ done messages closed hint commands → IsDone m c

abbrev pub issued_by : Machine → Call → List Issued
issued_by m c = (effect_of m c.time c.act).issues

-- "A supervisor answers a message when a packet call on its link is done with a MessageAck or MessageNotAck whose oMId is that message's
-- awaited identity": a message that carried record n
pub data Answered (m : Machine) (l n : ℕ) : Act → Type 0 where
  answered : {random bytes : Bytes} {room : ℕ} {j : Json} {a : Awaited} → read_packet bytes ≡ some j → is_answer j ≡ true
      → awaited_by (life_at m l) (string_of "oMId" j) ≡ some a → carried a.message ≡ some n → Answered m l n (packet l random bytes room)

-- how many of the records that a call issues are for link l
abbrev pub issues_of : Machine → ℕ → Call → ℕ
issues_of m l c = count (λ (i : Issued). eqb i.link l) (issued_by m c)

-- "if S holds 64, its oldest is lost; else a free place is taken": with the records that the call issues both sites together would hold more than
-- 128, or link l more than 64
abbrev pub NoPlace : Machine → Call → Type 0
NoPlace m c = 128 < length m.pool.held + length m.pool.beside.held + length (issued_by m c)

pub data NoRoom (m : Machine) (c : Call) (l : ℕ) : Type 0 where
  link_full : 64 < holds m.pool l + issues_of m l c → NoRoom m c l
  pool_full : NoPlace m c → NoRoom m c l

-- it stays, or there was no room for the records issued and at least 16 newer ones of its link are held after the call
pub data Kept (m : Machine) (c : Call) (r : Issued) (n : ℕ) : Type 0 where
  stays : IsHeld r n (step m c).1.pool.held → Kept m c r n
  pushed : IsDone m c → NoRoom m c r.link → 16 ≤ newer r.link n (step m c).1.pool.held → Kept m c r n

pub data Fate (m : Machine) (c : Call) (r : Issued) (n : ℕ) : Type 0 where
  kept : Kept m c r n → Fate m c r n
  settled : IsDone m c → Answered m r.link n c.act → Fate m c r n

-- a record of the other site in a call of this one: it stays, or there was no place for the records issued and at least 16 newer ones of its owner
-- are held after the call
pub data KeptBeside (m : Machine) (c : Call) (r : Issued) (n : ℕ) : Type 0 where
  stays : IsHeld r n (step m c).1.pool.beside.held → KeptBeside m c r n
  pushed : IsDone m c → NoPlace m c → 16 ≤ newer r.link n (step m c).1.pool.beside.held → KeptBeside m c r n

-- the link that a packet came in on
abbrev pub packet_link : Act → Option ℕ
packet_link (connect l) = none
packet_link (disconnect l) = none
packet_link (packet l random bytes room) = some l
packet_link (alarm_input i active) = none
packet_link (status_value i v) = none
packet_link (aggregated_value v) = none
packet_link tick = none
packet_link (pump l random room) = none

-- over turns of a box: site k holds it at the end, or one of them ended it: a call of its own, a call of the other's, or its next start
pub data Until (k : ℕ) (r : Issued) (n : ℕ) : Box → List Turn → Type 0 where
  lasts : {b : Box} {ts : List Turn} {m : Machine} → site_of k (turned_all ts b) ≡ some m → IsHeld r n m.pool.held → Until k r n b ts
  answered_now : {b : Box} {c : Call} {ts : List Turn} {m : Machine} → site_of k b ≡ some m → IsDone m c → Answered m r.link n c.act
      → Until k r n b (calls k c ∷ ts)
  pushed_now : {b : Box} {c : Call} {ts : List Turn} {m : Machine} → site_of k b ≡ some m → IsDone m c → NoRoom m c r.link
      → 16 ≤ newer r.link n (step m c).1.pool.held → Until k r n b (calls k c ∷ ts)
  pushed_beside : {b : Box} {j : ℕ} {c : Call} {ts : List Turn} {o : Machine} → (j ≡ k → ⊥) → site_of j b ≡ some o → IsDone o c → NoPlace o c
      → 16 ≤ newer r.link n (step o c).1.pool.beside.held → Until k r n b (calls j c ∷ ts)
  begins_anew : {b : Box} {m : Machine} {ts : List Turn} → Until k r n b (starts k (some m) ∷ ts)
  later : {b : Box} {t : Turn} {ts : List Turn} → Until k r n (turned t b) ts → Until k r n b (t ∷ ts)

-- the k-th of a list
pub data At {A : Type 0} (x : A) : ℕ → List A → Type 0 where
  first : {xs : List A} → At x 0 (x ∷ xs)
  behind : {k : ℕ} {y : A} {xs : List A} → At x k xs → At x (suc k) (y ∷ xs)
