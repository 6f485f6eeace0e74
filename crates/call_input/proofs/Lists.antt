-- Storing what stands there already.
-- Assumes nothing.
use Rattle.basis.proofs.Std.{ℕ, zero, suc, ◌≡◌, refl, sym, ap, List, [], ◌∷◌, get_or, set}

-- what stands there is put there
pub set_same : {A : Type 0} (xs : List A) (k : ℕ) (x d : A) → get_or xs k d ≡ x → set xs k x ≡ xs
set_same [] k x d h = refl
set_same {A = A} (y ∷ xs) zero x d h = ap (λ (z : A). z ∷ xs) (sym h)
set_same {A = A} (y ∷ xs) (suc k) x d h = ap (λ (zs : List A). y ∷ zs) (set_same xs k x d h)
