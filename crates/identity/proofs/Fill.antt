-- The elements of a list made by a function.
-- Assumes nothing.
use Rattle.basis.proofs.Std.{◌≡◌, refl, List, [], ◌∷◌, map, ℕ, zero, suc, ◌<◌, le_of_suc-le-suc, not-suc-le-zero, length, get_or}

pub mapped : (f : ℕ → ℕ) (xs : List ℕ) (k : ℕ) → k < length xs → get_or (map f xs) k 0 ≡ f (get_or xs k 0)
mapped f [] k h = absurd (not-suc-le-zero h)
mapped f (x ∷ xs) zero h = refl
mapped f (x ∷ xs) (suc k) h = mapped f xs k (le_of_suc-le-suc h)

-- what f keeps below a bound is below it everywhere, past the end too
pub mapped_below : (n : ℕ) → 0 < n → (f : ℕ → ℕ) → ((x : ℕ) → f x < n) → (xs : List ℕ) (k : ℕ) → get_or (map f xs) k 0 < n
mapped_below n z f h [] k = z
mapped_below n z f h (x ∷ xs) zero = h x
mapped_below n z f h (x ∷ xs) (suc k) = mapped_below n z f h xs k
