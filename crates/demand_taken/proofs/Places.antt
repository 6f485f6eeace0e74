-- Where in a list the first that passes stands.
-- Assumes nothing.
use Rattle.basis.proofs.Std.{ℕ, zero, suc, ◌+◌, ◌<◌, ◌≡◌, refl, ◌∙◌, ap, Bool, true, false, List, [], ◌∷◌, some, length, get_or, arith, pick, bool_cases}
use Rattle.machine.specs.Words.{place_from, place_of}

module _ {A : Type 0} (d : A) (f : A → Bool) where
  pub record Stands (n : ℕ) (xs : List A) (i : ℕ) : Type 0 where
    pub place : ℕ
    pub is : i ≡ n + place
    pub there : place < length xs
    pub passes : f (get_or xs place d) ≡ true

  stands_from : (n : ℕ) (xs : List A) (i : ℕ) → place_from n f xs ≡ some i → Stands n xs i
  stands_from n [] i e = absurd (let z : ◌≡◌ {A = ℕ} 0 1 = cc in omega arith)
  stands_from n (x ∷ xs) i e = go (f x) refl e (stands_from (suc n) xs i)
    where
      go : (b : Bool) → f x ≡ b → pick b (some n) (place_from (suc n) f xs) ≡ some i → (place_from (suc n) f xs ≡ some i → Stands (suc n) xs i) → Stands n (x ∷ xs) i
      go true g q r = let same : n ≡ i = cc in record { place = 0; is = omega (arith, same); there = omega arith; passes = g }
      go false g q r = let s = r q in record { place = suc s.place; is = omega (arith, s.is); there = omega (arith, s.there); passes = s.passes }

  pub stands : (xs : List A) (i : ℕ) → place_of f xs ≡ some i → (i < length xs) × (f (get_or xs i d) ≡ true)
  stands xs i e = let s = stands_from 0 xs i e in let same : i ≡ s.place = omega (arith, s.is) in rw same (s.there, s.passes)

  found_from : (n k : ℕ) (xs : List A) → k < length xs → f (get_or xs k d) ≡ true → ((q : ℕ) → q < length xs → f (get_or xs q d) ≡ true → q ≡ k) → place_from n f xs ≡ some (n + k)
  found_from n k [] h e once = absurd (omega (arith, h))
  found_from n zero (x ∷ xs) h e once = rw e (ap some (omega arith))
  found_from n (suc k) (x ∷ xs) h e once =
      bool_cases (f x)
      (λ g. absurd (omega (arith, once 0 (omega arith) g)))
      (λ g. rw g (found_from (suc n) k xs (omega (arith, h)) e (λ q r p. omega (arith, once (suc q) (omega (arith, r)) p)) ∙ ap some (omega arith)))

  pub found : (k : ℕ) (xs : List A) → k < length xs → f (get_or xs k d) ≡ true → ((q : ℕ) → q < length xs → f (get_or xs q d) ≡ true → q ≡ k) → place_of f xs ≡ some k
  found k xs h e once = found_from 0 k xs h e once ∙ ap some (omega arith)
