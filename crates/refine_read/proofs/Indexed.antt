-- A list by its places: what is done place after place is done entry after entry.
-- Assumes nothing.
use Rattle.basis.proofs.Std.{ℕ, zero, suc, ◌<◌, le_of_suc-le-suc, not-suc-le-zero, arith, ◌≡◌, refl, sym, ap, ◌∙◌, List, [], ◌∷◌, map, length, take, get_or, get_or-take}

module _ {A B : Type 0} (f : A → B) (d : A) (z : B) where
  mapped_at : (xs : List A) (i : ℕ) → i < length xs → get_or (map f xs) i z ≡ f (get_or xs i d)
  mapped_at [] i h = absurd (not-suc-le-zero h)
  mapped_at (x ∷ xs) zero h = refl
  mapped_at (x ∷ xs) (suc i) h = mapped_at xs i (le_of_suc-le-suc h)

  -- the first n of a list are these
  pub taken_at : (n : ℕ) (ys : List B) (xs : List A) → take n ys ≡ map f xs → n ≡ length xs → (i : ℕ) → i < n → get_or ys i z ≡ f (get_or xs i d)
  taken_at n ys xs e c i h = sym (get_or-take n ys i z h) ∙ ap (λ (l : List B). get_or l i z) e ∙ mapped_at xs i (omega arith)

-- entry after entry
abbrev pub done : {A X : Type 0} → (X → A → X) → X → List A → X
done step x [] = x
done step x (a ∷ xs) = done step (step x a) xs

pub by_places : {A X : Type 0} (step : X → A → X) (d : A) (xs : List A) (after : ℕ → X)
    → ((i : ℕ) → i < length xs → after (suc i) ≡ step (after i) (get_or xs i d))
    → after (length xs) ≡ done step (after 0) xs
by_places step d [] after h = refl
by_places {X = X} step d (x ∷ xs) after h =
    by_places step d xs (λ i. after (suc i)) (λ i l. h (suc i) (omega arith)) ∙ ap (λ (y : X). done step y xs) (h 0 (omega arith))
