-- The fullest of the first owners: none holds more, and every lower one holds fewer.
-- Assumes nothing.
use Rattle.basis.proofs.Std.{ℕ, suc, zero, ◌≤◌, ◌<◌, ◌≡◌, refl, Bool, true, false, ◌⊎◌, inl, inr, ltb, arith, ltb-true, ltb-false, pick, eq_or_ne}
use Rattle.pool.specs.Shares.{fullest}

-- the owners 0 to k: the fullest is one of them, none holds more, and every lower one holds fewer
pub record Fullest (held : ℕ → ℕ) (k m : ℕ) : Type 0 where
  pub one : m ≤ k
  pub most : (j : ℕ) → j ≤ k → held j ≤ held m
  pub first : (j : ℕ) → j < m → held j < held m

pub fullest_is : (held : ℕ → ℕ) (k : ℕ) → Fullest held k (fullest held k)
unfolding fullest
fullest_is held zero = record { one = omega arith; most = λ j h. at j (omega arith); first = λ j h. absurd (omega arith) }
  where
    at : (j : ℕ) → j ≡ 0 → held j ≤ held 0
    at j e = rw e (omega arith)
fullest_is held (suc k) = go (ltb (held (fullest held k)) (held (suc k))) refl (fullest_is held k)
  where
    go : (t : Bool) → ltb (held (fullest held k)) (held (suc k)) ≡ t → Fullest held k (fullest held k) → Fullest held (suc k) (pick t (suc k) (fullest held k))
    go true e f = record { one = omega arith; most = λ j h. most j h (eq_or_ne j (suc k)); first = λ j h. omega (arith, f.most j (omega arith), ltb-true (held (fullest held k)) (held (suc k)) e) }
      where
        most : (j : ℕ) → j ≤ suc k → (j ≡ suc k) ⊎ (j ≡ suc k → ⊥) → held j ≤ held (suc k)
        most j h (inl d) = rw d (omega arith)
        most j h (inr d) = omega (arith, f.most j (omega arith), ltb-true (held (fullest held k)) (held (suc k)) e)
    go false e f = record { one = omega (arith, f.one); most = λ j h. most j h (eq_or_ne j (suc k)); first = f.first }
      where
        most : (j : ℕ) → j ≤ suc k → (j ≡ suc k) ⊎ (j ≡ suc k → ⊥) → held j ≤ held (fullest held k)
        most j h (inl d) = rw d (ltb-false (held (fullest held k)) (held (suc k)) e)
        most j h (inr d) = f.most j (omega arith)
