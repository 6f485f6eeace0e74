-- What holds of the records of every place holds of all of them.
-- Assumes nothing.
use Rattle.basis.proofs.Std.{ℕ, zero, suc, ◌<◌, ◌≡◌, refl, List, [], arith}
use Rattle.entry.specs.declared.Entry.{Entry}
use Rattle.pool_laws.specs.Upwards.{entries_to}

module _ (f : ℕ → List Entry) where
  -- no place has records: there are none
  pub none_to : (k : ℕ) → ((i : ℕ) → i < k → f i ≡ []) → entries_to f k ≡ []
  none_to zero h = refl
  none_to (suc k) h = rw (none_to k (λ i g. h i (omega arith))) (h k (omega arith))
