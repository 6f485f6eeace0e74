-- What keeping does to the machine's lists, and what stands in a list whose one element is changed.
-- Assumes nothing.
use Rattle.basis.proofs.Std.{ℕ, zero, suc, ◌+◌, ◌<◌, ◌≡◌, refl, sym, ◌∙◌, ap, Bool, true, false, not, List, [], ◌∷◌, ◌++◌, map, some, ◌⊎◌, inl, inr, eqb, length, get_or, drop, add-zero, arith, eq-eqb, ne_eqb, pick, both, bit, count, eq_or_ne}
use Rattle.machine.specs.Words.{keep, but_first, first_that, changed}

module _ {A : Type 0} where
  abbrev before : A → List A → List A
  before x l = x ∷ l

  pub keep_first : (f : A → Bool) (xs : List A) → keep f (but_first f xs) ≡ drop 1 (keep f xs)
  keep_first f [] = refl
  keep_first f (x ∷ xs) = go (f x) refl (keep_first f xs)
    where
      go : (t : Bool) → f x ≡ t → keep f (but_first f xs) ≡ drop 1 (keep f xs) → keep f (pick t xs (x ∷ but_first f xs)) ≡ drop 1 (pick t (x ∷ keep f xs) (keep f xs))
      go true e r = refl
      go false e r = rw e r

  -- elements that another test does not take are kept
  module _ (f g : A → Bool) (apart : (x : A) → f x ≡ true → g x ≡ false) where
    pub keep_other : (xs : List A) → keep g (but_first f xs) ≡ keep g xs
    keep_other [] = refl
    keep_other (x ∷ xs) = go (f x) refl (keep_other xs)
      where
        go : (t : Bool) → f x ≡ t → keep g (but_first f xs) ≡ keep g xs → keep g (pick t xs (x ∷ but_first f xs)) ≡ keep g (x ∷ xs)
        go true e r = rw (apart x e)
        go false e r = rw r

    pub keep_spared : (t : A → Bool) (xs : List A) → keep g (keep (λ x. not (both (f x) (t x))) xs) ≡ keep g xs
    keep_spared t [] = refl
    keep_spared t (x ∷ xs) = go (f x) refl (t x) (keep_spared t xs)
      where
        rest : List A
        rest = keep (λ x. not (both (f x) (t x))) xs

        go : (a : Bool) → f x ≡ a → (b : Bool) → keep g rest ≡ keep g xs → keep g (pick (not (both a b)) (x ∷ rest) rest) ≡ keep g (x ∷ xs)
        go true e true r = rw (apart x e) r
        go true e false r = rw r
        go false e b r = rw r

  pub keep_both : (g t : A → Bool) (xs : List A) → keep g (keep (λ x. not (both (g x) (t x))) xs) ≡ keep (λ x. not (t x)) (keep g xs)
  keep_both g t [] = refl
  keep_both g t (x ∷ xs) = go (g x) refl (t x) refl (keep_both g t xs)
    where
      rest : List A
      rest = keep (λ x. not (both (g x) (t x))) xs

      go : (a : Bool) → g x ≡ a → (b : Bool) → t x ≡ b → keep g rest ≡ keep (λ x. not (t x)) (keep g xs)
          → keep g (pick (not (both a b)) (x ∷ rest) rest) ≡ keep (λ x. not (t x)) (pick a (x ∷ keep g xs) (keep g xs))
      go true e true d r = rw d r
      go true e false d r = rw (e, d, r)
      go false e b d r = rw (e, r)

  pub keep_last : (f : A → Bool) (xs : List A) (y : A) → keep f (xs ++ (y ∷ [])) ≡ keep f xs ++ pick (f y) (y ∷ []) []
  keep_last f [] y = refl
  keep_last f (x ∷ xs) y = go (f x) (keep_last f xs y)
    where
      go : (t : Bool) → keep f (xs ++ (y ∷ [])) ≡ keep f xs ++ pick (f y) (y ∷ []) []
          → pick t (x ∷ keep f (xs ++ (y ∷ []))) (keep f (xs ++ (y ∷ []))) ≡ pick t (x ∷ keep f xs) (keep f xs) ++ pick (f y) (y ∷ []) []
      go true r = ap (before x) r
      go false r = r

  pub keep_map : (f : A → Bool) (g : A → A) → ((x : A) → f (g x) ≡ f x) → (xs : List A) → keep f (map g xs) ≡ map g (keep f xs)
  keep_map f g h [] = refl
  keep_map f g h (x ∷ xs) = rw (h x) (go (f x) (keep_map f g h xs))
    where
      go : (t : Bool) → keep f (map g xs) ≡ map g (keep f xs) → pick t (g x ∷ keep f (map g xs)) (keep f (map g xs)) ≡ map g (pick t (x ∷ keep f xs) (keep f xs))
      go true r = ap (before (g x)) r
      go false r = r

  pub keep_length : (f : A → Bool) (xs : List A) → length (keep f xs) ≡ count f xs
  keep_length f [] = refl
  keep_length f (x ∷ xs) = go (f x) (keep_length f xs)
    where
      go : (t : Bool) → length (keep f xs) ≡ count f xs → length (pick t (x ∷ keep f xs) (keep f xs)) ≡ bit t + count f xs
      go true r = omega arith
      go false r = omega arith

  pub keep_count : (f g : A → Bool) (xs : List A) → count g (keep f xs) ≡ count (λ x. both (f x) (g x)) xs
  keep_count f g [] = refl
  keep_count f g (x ∷ xs) = go (f x) (keep_count f g xs)
    where
      go : (t : Bool) → count g (keep f xs) ≡ count (λ x. both (f x) (g x)) xs
          → count g (pick t (x ∷ keep f xs) (keep f xs)) ≡ bit (both t (g x)) + count (λ x. both (f x) (g x)) xs
      go true r = omega arith
      go false r = omega arith

  pub first_kept : (f g : A → Bool) (xs : List A) → first_that (λ x. both (f x) (g x)) xs ≡ first_that g (keep f xs)
  first_kept f g [] = refl
  first_kept f g (x ∷ xs) = go (f x) (first_kept f g xs)
    where
      go : (t : Bool) → first_that (λ x. both (f x) (g x)) xs ≡ first_that g (keep f xs)
          → pick (both t (g x)) (some x) (first_that (λ x. both (f x) (g x)) xs) ≡ first_that g (pick t (x ∷ keep f xs) (keep f xs))
      go true r = rw r
      go false r = r

  pub drop_map : {B : Type 0} (f : A → B) (xs : List A) → drop 1 (map f xs) ≡ map f (drop 1 xs)
  drop_map f [] = refl
  drop_map f (x ∷ xs) = refl

eqb_suc : (a b : ℕ) → eqb (suc a) (suc b) ≡ eqb a b
eqb_suc a b = go (eq_or_ne a b)
  where
    go : (a ≡ b) ⊎ (a ≡ b → ⊥) → eqb (suc a) (suc b) ≡ eqb a b
    go (inl e) = eq-eqb (suc a) (suc b) (ap suc e) ∙ sym (eq-eqb a b e)
    go (inr e) = ne_eqb (suc a) (suc b) (λ d. e (omega arith)) ∙ sym (ne_eqb a b e)

-- one count more
pub get_d_changed : (w l : ℕ) (xs : List ℕ) → w < length xs → get_or (changed w suc xs) l 0 ≡ get_or xs l 0 + bit (eqb w l)
get_d_changed w l [] h = absurd (omega arith)
get_d_changed zero zero (x ∷ xs) h = omega arith
get_d_changed zero (suc l) (x ∷ xs) h = rw (ne_eqb 0 (suc l) (λ e. omega arith)) (sym (add-zero (get_or xs l 0)))
get_d_changed (suc w) zero (x ∷ xs) h = rw (ne_eqb (suc w) 0 (λ e. omega arith)) (sym (add-zero x))
get_d_changed (suc w) (suc l) (x ∷ xs) h = rw (eqb_suc w l) (get_d_changed w l xs (omega arith))
