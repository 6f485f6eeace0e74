-- Document 02, request 13: "on an Up link that is not closed meanwhile, count only pumps that send something other than a Watchdog. A held record that has
-- not been sent is sent or lost within 2 + A + K such pumps, where A is the number of alarms in the site table on the primary and 0 on a secondary, and K is
-- the number of older unsent records held for that link at the beginning." The link is one of site k of a box, and the other site's turns come in between.
-- Assumes nothing.
use Rattle.std.specs.Prelude.{ℕ, suc, ◌+◌, ◌≤◌, ◌<◌, ◌≡◌, Bool, true, false, not, List, [], ◌∷◌, eqb, ltb, length}
use Rattle.std.proofs.Math.Option.{some, none}
use Rattle.basis.specs.Lists.{count, Among}
use Rattle.write_message.specs.Message.{Message}
use Rattle.write_message.specs.Message.Message.{version, watchdog, ack, not_ack, alarm, aggregated, statuses, included}
use Rattle.machine.specs.Words.{Bytes, if'◌then◌else◌, ◌and◌, maybe, is_some, any}
use Rattle.machine.specs.State.{issued_for, Held, Machine, life_at, Act, Call}
use Rattle.machine.specs.State.Sent.{the_record}
use Rattle.machine.specs.State.Act.{connect, disconnect, packet, alarm_input, status_value, aggregated_value, tick, pump}
use Rattle.machine.specs.State.Outcome.{refused, done}
use Rattle.machine.specs.Life.{is_up, is_primary}
use Rattle.machine.specs.Pool.{is_for}
use Rattle.machine.specs.Messages.{record_message}
use Rattle.machine.specs.Effects.{own_identity}
use Rattle.machine.specs.Step.{step}
use Rattle.machine.specs.Box.{Box, empty_box, site_of, Turn, turned, turned_all}
use Rattle.machine.specs.Box.Turn.{starts, calls}
use Rattle.machine.specs.Run.{Past, past, Played}
use Rattle.demand_held.specs.Held.{IsHeld, newer, IsDone, issued_by}
use Rattle.demand_told.specs.Demand.{messages_of}
use Rattle.demand_told.specs.Life.{ends}
use Rattle.demand_happens.specs.Pumped.{at}
use Rattle.demand_happens.specs.Records.{ahead}

-- ---- "count only pumps that send something other than a Watchdog"
abbrev pub is_beat : Message → Bool
is_beat (version id site sxl) = false
is_beat (watchdog id t) = true
is_beat (ack id) = false
is_beat (not_ack id reason) = false
is_beat (alarm id component code state) = false
is_beat (aggregated id component t v) = false
is_beat (statuses kind id component t entries) = false
is_beat (included kind id component t entries) = false

abbrev pub is_pump_of : ℕ → Act → Bool
is_pump_of l (connect i) = false
is_pump_of l (disconnect i) = false
is_pump_of l (packet i random bytes room) = false
is_pump_of l (alarm_input i active) = false
is_pump_of l (status_value i v) = false
is_pump_of l (aggregated_value v) = false
is_pump_of l tick = false
is_pump_of l (pump i random room) = eqb i l

abbrev pub is_counted : ℕ → Past → Bool
is_counted l p = is_pump_of l p.call.act and any (λ w. not (is_beat w)) (messages_of p.gave)

-- of a box: those of site k alone
abbrev pub counts : ℕ → ℕ → Box → Turn → Bool
counts k l b (starts i o) = false
counts k l b (calls i c) = eqb i k and maybe false (λ m. is_counted l (past m c)) (site_of k b)

abbrev pub pumps : ℕ → ℕ → Box → List Turn → ℕ
pumps k l b [] = 0
pumps k l b (t ∷ ts) = (if' counts k l b t then 1 else 0) + pumps k l (turned t b) ts

-- ---- "2 + A + K"
abbrev pub alarms_for : Machine → ℕ → ℕ
alarms_for m l = if' is_primary m l then length m.setup.table.alarms else 0

abbrev pub older_unsent : Machine → ℕ → Held → ℕ
older_unsent m l x = count (λ (h : Held). is_for l h and not h.sent and ltb h.sequence x.sequence) m.pool.held

abbrev pub bound : Machine → ℕ → Held → ℕ
bound m l x = 2 + alarms_for m l + older_unsent m l x

-- ---- "on an Up link": a held record of it that has not been sent
pub record Waits (l : ℕ) (x : Held) (m : Machine) : Type 0 where
  pub configured : l < m.setup.links
  pub up : is_up (life_at m l) ≡ true
  pub held : Among x m.pool.held
  pub link : x.link ≡ l
  pub unsent : x.sent ≡ false

-- "that is not closed meanwhile": no call of its site closes it, and its site does not start anew
abbrev pub cuts : ℕ → ℕ → Box → Turn → Bool
cuts k l b (starts i o) = eqb i k and is_some o
cuts k l b (calls i c) = eqb i k and maybe false (λ m. ends l (past m c)) (site_of k b)

pub data Stays (k l : ℕ) : Box → List Turn → Type 0 where
  no_turn : {b : Box} → Stays k l b []
  one_more : {b : Box} {t : Turn} {ts : List Turn} → cuts k l b t ≡ false → Stays k l (turned t b) ts → Stays k l b (t ∷ ts)

-- ---- "is sent or lost"
-- a done call issues, after it the record is not held, and at least 16 newer ones of its link are
pub record IsLost (l : ℕ) (x : Held) (m : Machine) (c : Call) (hs : List Held) : Type 0 where
  pub done : IsDone m c
  pub issues : 1 ≤ length (issued_by m c)
  pub gone : IsHeld (issued_for l x.content) x.sequence hs → ⊥
  pub newer_ones_lem : 16 ≤ newer l x.sequence hs

-- a pump writes the record's message alone, and the answer to it is awaited for the record; or it is lost in a call of its site or of the other
pub data Ends (k l : ℕ) (x : Held) (b : Box) : Turn → Type 0 where
  sent : {m : Machine} {t room : ℕ} {random : Bytes} → site_of k b ≡ some m → Waits l x m
      → (step m (at t (pump l random room))).0 ≡ done (record_message m.setup.table (own_identity random) x.content ∷ []) [] none []
      → Among (record { identity = own_identity random; time = t; message = the_record x.sequence }) (life_at (step m (at t (pump l random room))).1 l).awaited
      → Ends k l x b (calls k (at t (pump l random room)))
  lost : {m : Machine} {c : Call} → site_of k b ≡ some m → Waits l x m → IsLost l x m c (step m c).1.pool.held → Ends k l x b (calls k c)
  lost_beside : {m o : Machine} {j : ℕ} {c : Call} → site_of k b ≡ some m → Waits l x m → (j ≡ k → ⊥) → site_of j b ≡ some o
      → IsLost l x o c (step o c).1.pool.beside.held → Ends k l x b (calls j c)

-- over turns of the box: sent in the n-th counted pump or before it, lost before the n-th, or still waiting before the n-th
pub data Out (k l : ℕ) (x : Held) : ℕ → Box → List Turn → Type 0 where
  ended : {n : ℕ} {b : Box} {t : Turn} {ts : List Turn} → 1 ≤ n → Ends k l x b t → Out k l x n b (t ∷ ts)
  waits : {n : ℕ} {b : Box} {m : Machine} → 1 ≤ n → site_of k b ≡ some m → Waits l x m → Out k l x n b []
  counted : {n : ℕ} {b : Box} {t : Turn} {ts : List Turn} → counts k l b t ≡ true → Out k l x n (turned t b) ts → Out k l x (suc n) b (t ∷ ts)
  uncounted : {n : ℕ} {b : Box} {t : Turn} {ts : List Turn} → counts k l b t ≡ false → Out k l x n (turned t b) ts → Out k l x n b (t ∷ ts)

-- sent or lost in one of them
pub data Gone (k l : ℕ) (x : Held) : Box → List Turn → Type 0 where
  now : {b : Box} {t : Turn} {ts : List Turn} → Ends k l x b t → Gone k l x b (t ∷ ts)
  later : {b : Box} {t : Turn} {ts : List Turn} → Gone k l x (turned t b) ts → Gone k l x b (t ∷ ts)

module _ (k l : ℕ) (x : Held) (m : Machine) (b : Box) (us : List Turn) where
  pub record InTime : Type 0 where
    pub in_time : Out k l x (bound m l x) b us
    pub within : bound m l x ≤ pumps k l b us → Gone k l x b us
    -- by what stands before it (demand_happens)
    pub sharp : Out k l x (ahead m l x) b us
    pub no_more : ahead m l x ≤ bound m l x

pub record Waiting : Type 0 where
  -- after any turns of a box, over any further turns
  pub of_every_box : (ts us : List Turn) → Played ts → Played us → (k l : ℕ) (x : Held) (m : Machine) → site_of k (turned_all ts empty_box) ≡ some m → Waits l x m
      → Stays k l (turned_all ts empty_box) us → InTime k l x m (turned_all ts empty_box) us
  -- number 7 on an Up link: nothing held for it is unsent
  pub drained : (m : Machine) (l t room : ℕ) (random : Bytes) → is_up (life_at m l) ≡ true → (step m (at t (pump l random room))).0 ≡ refused 7
      → count (λ (h : Held). is_for l h and not h.sent) m.pool.held ≡ 0
