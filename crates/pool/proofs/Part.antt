-- A function on the first elements of a list: what a loop has done that goes up the list and changes one element a turn.
-- Assumes nothing.
use Rattle.basis.proofs.Std.{ℕ, zero, suc, ◌≤◌, ◌<◌, ◌+◌, ◌≡◌, refl, ap, List, [], ◌∷◌, map, arith, add-one, length, get_or, set}

unfoldable pub part : {A : Type 0} → (A → A) → ℕ → List A → List A
part f zero p = p
part f (suc i) [] = []
part f (suc i) (x ∷ p) = f x ∷ part f i p

module _ {A : Type 0} (f : A → A) where
  part_suc : (i : ℕ) (p : List A) (d : A) → i < length p → set (part f i p) i (f (get_or p i d)) ≡ part f (suc i) p
  unfolding part
  part_suc i [] d h = absurd (omega arith)
  part_suc zero (x ∷ p) d h = refl
  part_suc (suc i) (x ∷ p) d h = ap (λ (l : List A). f x ∷ l) (part_suc i p d (omega arith))

  pub part_next : (i : ℕ) (p : List A) (d : A) → i < length p → set (part f i p) i (f (get_or p i d)) ≡ part f (i + 1) p
  part_next i p d h = rw (add-one i) (part_suc i p d h)

  pub part_none : (p : List A) → part f 0 p ≡ p
  unfolding part
  part_none p = refl

  pub part_all : (i : ℕ) (p : List A) → length p ≤ i → part f i p ≡ map f p
  unfolding part
  part_all zero [] h = refl
  part_all (suc i) [] h = refl
  part_all zero (x ∷ p) h = absurd (omega arith)
  part_all (suc i) (x ∷ p) h = ap (λ (l : List A). f x ∷ l) (part_all i p (omega arith))
