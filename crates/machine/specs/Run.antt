-- "A sequence of calls is one done start, then the other calls, each on the state left by the one before."
-- Assumes nothing.
use Rattle.std.specs.Prelude.{ℕ, ◌≡◌, List, [], ◌∷◌}
use Rattle.std.proofs.Math.Option.{Option, some}
use Rattle.machine.specs.State.{own_of, Start, Machine, Call, Outcome}
use Rattle.machine.specs.Table.{Begins}
use Rattle.machine.specs.Step.{step}
use Rattle.machine.specs.Box.{Box, site_of, other_of, finds, begins_beside, Turn}
use Rattle.machine.specs.Box.Turn.{starts, calls}

-- a call and what it gave
pub record Past : Type 0 where
  pub call : Call
  pub gave : Outcome

abbrev pub past : Machine → Call → Past
past m c = record { call = c; gave = (step m c).0 }

-- the two sites of a box: what each has beside it is the other's
pub record Neighbours (m o : Machine) : Type 0 where
  pub two : m.pool.site ≡ o.pool.site → ⊥
  pub beside : m.pool.beside ≡ own_of o.pool
  pub own : o.pool.beside ≡ own_of m.pool

-- the calls of a site since a start of its own, LATEST FIRST, and the machine that they leave; request 10: the other site's starts and calls come in
-- between, whatever its own calls were
pub data Run : Start → List Past → Machine → Type 0 where
  begun : {s : Start} {m : Machine} → Begins s (some m) → Run s [] m
  begun_beside : {s r : Start} {g : List Past} {m o : Machine} → Begins s (some m) → Run r g o → (m.pool.site ≡ o.pool.site → ⊥)
      → Run s [] (begins_beside (some o) m)
  next : {s : Start} {h : List Past} {m : Machine} (c : Call) → Run s h m → Run s (past m c ∷ h) (step m c).1
  other_starts : {s r : Start} {h : List Past} {m o : Machine} → Run s h m → Begins r (some o) → (m.pool.site ≡ o.pool.site → ⊥)
      → Run s h (finds (begins_beside (some m) o) m)
  other_calls : {s r : Start} {h g : List Past} {m o : Machine} → Run s h m → Run r g o → Neighbours m o → (c : Call) → Run s h (finds (step o c).1 m)

-- ---- and there are no others in a box: turns whose starts are starts of their sites, from the empty box, leave each site at the end of a run
-- (demand_held `of_every_box`)
pub data Played : List Turn → Type 0 where
  no_turn : Played []
  start : {s : Start} {o : Option Machine} {ts : List Turn} → Begins s o → Played ts → Played (starts s.site o ∷ ts)
  call : {k : ℕ} {c : Call} {ts : List Turn} → Played ts → Played (calls k c ∷ ts)

pub record RunTo (m : Machine) : Type 0 where
  pub start : Start
  pub past : List Past
  pub run : Run start past m

pub record Runs (b : Box) : Type 0 where
  pub run : (k : ℕ) (m : Machine) → site_of k b ≡ some m → RunTo m
  pub site : (k : ℕ) (m : Machine) → site_of k b ≡ some m → m.pool.site ≡ k
  pub neighbours : (k : ℕ) (m o : Machine) → site_of k b ≡ some m → other_of k b ≡ some o → Neighbours m o
