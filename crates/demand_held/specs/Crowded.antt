-- The condition that document 01 had a number for.
-- Assumes nothing.
use Rattle.std.specs.Prelude.{ℕ, ◌+◌, ◌≤◌, ◌<◌, ◌≡◌, length}
use Rattle.machine.specs.State.{Pool}
use Rattle.machine.specs.Pool.{holds, owner_of, held_by}

-- "pool full, the link holds fewer than 16, no other link holds more than 16", over the eight owners; there is a lost count for each link
pub record Crowded (p : Pool) (l : ℕ) : Type 0 where
  pub link : l < length p.lost
  pub full : 128 ≤ length p.held + length p.beside.held
  pub few : holds p l < 16
  pub others : (o : ℕ) → o < 8 → (o ≡ owner_of p.site l → ⊥) → held_by p o ≤ 16
