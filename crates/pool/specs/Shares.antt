-- Who gives a record up when one is issued: document 01's rule, as a function of how many records each owner holds and how many places are free.
-- Assumes nothing.
use Rattle.std.specs.Prelude.{ℕ, zero, suc, ◌-◌, leb, ltb}
use Rattle.basis.specs.Pick.{pick}
use Rattle.pool.specs.declared.Loser.{Loser}
use Rattle.pool.specs.declared.Loser.TheVariants.{Nobody, Owner}

abbrev pub fuller : (ℕ → ℕ) → ℕ → ℕ → ℕ
fuller held a b = pick (ltb (held a) (held b)) b a

-- which of the owners 0 to k holds most; of several the lowest
unfoldable pub fullest : (ℕ → ℕ) → ℕ → ℕ
fullest held zero = 0
fullest held (suc k) = fuller held (fullest held k) (suc k)

-- of n owners, the one whose oldest record is lost when one is issued for owner l: l's own where it holds 64; nobody's where a place
-- is free; else, l below 16, that of the owner holding most; else l's own
unfoldable pub loser : ℕ → (ℕ → ℕ) → ℕ → ℕ → Loser
loser n held free l =
    pick (leb 64 (held l)) (Owner l)
    (pick (ltb 0 free) Nobody
    (pick (ltb (held l) 16) (Owner (fullest held (n - 1))) (Owner l)))
