-- "greets properly and then only pretends to issue or send": with other calls between the rounds of pump and answer, and in every new life of a link,
-- each held record goes out or is pushed out by newer ones.
-- Assumes nothing.
use Rattle.std.specs.Prelude.{ℕ, suc, ◌≤◌, ◌<◌, ◌≡◌, true, false, List, [], ◌∷◌, ◌⊎◌}
use Rattle.basis.specs.Lists.{Among}
use Rattle.json_value.specs.Grammar.{Json}
use Rattle.machine.specs.Words.{Bytes}
use Rattle.machine.specs.State.{Held, Start, Machine, life_at, Call}
use Rattle.machine.specs.State.Act.{packet, pump}
use Rattle.machine.specs.Life.{is_down, is_up}
use Rattle.machine.specs.Step.{step, leaves}
use Rattle.machine.specs.Run.{Past, Run}
use Rattle.demand_held.specs.Held.{IsDone, NoRoom, newer}
use Rattle.demand_happens.specs.Pumped.{at}
use Rattle.demand_happens.specs.Greeting.{Meanwhile, Greets}
use Rattle.demand_happens.specs.Greeting.Stage.{down}
use Rattle.demand_happens.specs.Records.{next_beat, IsRound, ahead, GoesOut}

-- n rounds on link l, as demand_happens has them, and calls in between
pub data RoundsAmong (l : ℕ) : Machine → ℕ → List Call → Type 0 where
  over : {m : Machine} → RoundsAmong l m 0 []
  between : {m : Machine} {n : ℕ} {c : Call} {cs : List Call} → Meanwhile l m c → RoundsAmong l (step m c).1 n cs → RoundsAmong l m n (c ∷ cs)
  round : {m : Machine} {n t room s place : ℕ} {random other bytes : Bytes} {j : Json} {cs : List Call} → IsRound l m t room random s place bytes j → t < next_beat m l
      → RoundsAmong l (step (step m (at t (pump l random room))).1 (at s (packet l other bytes place))).1 n cs
      → RoundsAmong l m (suc n) (at t (pump l random room) ∷ at s (packet l other bytes place) ∷ cs)
  beat : {m : Machine} {n t room s place : ℕ} {random other bytes : Bytes} {j : Json} {cs : List Call} → IsRound l m t room random s place bytes j → next_beat m l ≤ t
      → RoundsAmong l (step (step m (at t (pump l random room))).1 (at s (packet l other bytes place))).1 n cs
      → RoundsAmong l m n (at t (pump l random room) ∷ at s (packet l other bytes place) ∷ cs)

-- one of the calls pushes the record out: there is no room for what it issues, and 16 newer ones of the link are held after it
pub data PushedOut (l : ℕ) (x : Held) : Machine → List Call → Type 0 where
  pushed_now : {m : Machine} {c : Call} {cs : List Call} → IsDone m c → NoRoom m c l → 16 ≤ newer l x.sequence (step m c).1.pool.held → PushedOut l x m (c ∷ cs)
  pushed_later : {m : Machine} {c : Call} {cs : List Call} → PushedOut l x (step m c).1 cs → PushedOut l x m (c ∷ cs)

pub record DemandSends : Type 0 where
  pub goes_out_among : (s : Start) (h : List Past) (m : Machine) → Run s h m → (l : ℕ) → l < m.setup.links → is_up (life_at m l) ≡ true → (life_at m l).awaited ≡ []
      → (x : Held) → Among x m.pool.held → x.link ≡ l
      → (n : ℕ) (cs : List Call) → RoundsAmong l m n cs → ahead m l x ≤ n → GoesOut l x m cs ⊎ PushedOut l x m cs
  -- "Closing (also disconnect) leaves .. no record of it marked sent": whatever went out before on a link that is Down, once it is greeted anew
  pub sent_again : (s : Start) (h : List Past) (m : Machine) → Run s h m → (l : ℕ) → l < m.setup.links → is_down (life_at m l) ≡ true
      → (greeting : List Call) → Greets l m down greeting
      → (x : Held) → Among x (leaves m greeting).pool.held → x.link ≡ l
      → (n : ℕ) (cs : List Call) → RoundsAmong l (leaves m greeting) n cs → ahead (leaves m greeting) l x ≤ n
      → GoesOut l x (leaves m greeting) cs ⊎ PushedOut l x (leaves m greeting) cs
