-- The pool is never crowded: 16 an owner are a full pool or more than one, and one owner holds fewer. And what issuing does where none of the
-- links holds a record.
-- Assumes nothing.
use Rattle.basis.proofs.Std.{ℕ, ◌*◌, ◌≤◌, ◌<◌, ◌≡◌, ap, ◌⊎◌, inl, inr, arith, eq_or_ne}
use Rattle.pool.specs.declared.Pool.{Pool}
use Rattle.pool.specs.Pool.{held_of}
use Rattle.pool_laws.specs.Crowded.{Crowded, NeverCrowded}
use Rattle.pool_laws.proofs.Fullest.{every_place, fewer}
use Rattle.pool_laws.proofs.Inv.{Inv}
use Rattle.pool_laws.proofs.Kept.{reached_keeps}

module _ (n : ℕ) (p : Pool) (l : ℕ) (c : Crowded n p l) where
  each : (j : ℕ) → j < n → (j ≡ l) ⊎ (j ≡ l → ⊥) → held_of p j ≤ 16
  each j h (inl d) = omega (arith, ap (held_of p) d, c.few)
  each j h (inr d) = c.others j h d

  not_all : (q : ℕ → ℕ) → 16 * n ≤ 128 → Inv n p q → ⊥
  not_all q small i =
      omega (
        arith,
        fewer (held_of p) n l c.link c.few (λ j h. each j h (eq_or_ne j l)),
        every_place n p.places,
        i.size,
        i.owned,
        c.full,
      )

pub never_crowded : NeverCrowded
never_crowded n small p q r l c = not_all n p l c q small (reached_keeps n small p q r)
