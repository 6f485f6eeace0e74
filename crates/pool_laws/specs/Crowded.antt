-- The pool full for an owner below its least share, and no other owner above it: a condition that document 01 had a number for. It never
-- holds, whatever the acts. Statements only: their proofs are `never_crowded` and `foreign`.
-- Assumes nothing.
use Rattle.std.specs.Prelude.{ℕ, ◌*◌, ◌≤◌, ◌<◌, ◌≡◌}
use Rattle.pool.specs.declared.Pool.{Pool}
use Rattle.pool.specs.Pool.{held_of, free_in}
use Rattle.pool_laws.specs.Promises.{Reached}

-- of n owners: "pool full, the link holds fewer than 16, no other link holds more than 16"
pub record Crowded (n : ℕ) (p : Pool) (l : ℕ) : Type 0 where
  pub link : l < n
  pub full : free_in p.places ≡ 0
  pub few : held_of p l < 16
  pub others : (j : ℕ) → j < n → (j ≡ l → ⊥) → held_of p j ≤ 16

-- 128 places are a least share for each of the owners
abbrev pub NeverCrowded : Type 0
NeverCrowded = (n : ℕ) → 16 * n ≤ 128 → (p : Pool) (q : ℕ → ℕ) → Reached n p q → (l : ℕ) → Crowded n p l → ⊥
