-- Document 02, request 10: "in every sequence where no record is issued while the pool is full, the numbers and bytes of one site are the same as if the
-- other's calls had never been made."
-- Assumes nothing.
use Rattle.std.specs.Prelude.{ℕ, ◌<◌, ◌≡◌, List}
use Rattle.std.proofs.Math.Option.{Option, some, none}
use Rattle.machine.specs.State.{Machine}
use Rattle.machine.specs.Readings.{reading}
use Rattle.machine.specs.Box.{empty_box, site_of, Turn, turned_all, given, only, Roomy}

-- what is read of a site, of every link
pub data ReadAlike : Option Machine → Option Machine → Type 0 where
  neither : ReadAlike none none
  both_read : {m a : Machine} → ((l : ℕ) → reading m l ≡ reading a l) → ReadAlike (some m) (some a)

-- of site 0 and of site 1, whatever the turns; the other's starts have not been made either
pub record DemandApart : Type 0 where
  -- numbers, messages (their bytes), links closed, hints, commands: of every call of the site, in order
  pub told : (k : ℕ) → k < 2 → (ts : List Turn) → Roomy ts empty_box → given k ts empty_box ≡ given k (only k ts) empty_box
  -- held and lost counts, phase, version, the bytes of every held record: after any such sequence, so at any place of one
  pub read : (k : ℕ) → k < 2 → (ts : List Turn) → Roomy ts empty_box → ReadAlike (site_of k (turned_all ts empty_box)) (site_of k (turned_all (only k ts) empty_box))
