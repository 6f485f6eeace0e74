-- Laws of lists that are kept, mapped and put in a row.
-- Assumes nothing.
use Rattle.basis.proofs.Std.{ℕ, ◌≡◌, refl, sym, ◌∙◌, ap, Bool, true, false, List, [], ◌∷◌, ◌++◌, map, eqb, eqb-true, eqb-false, eq-eqb, ne_eqb, pick, both, not_both, untrue, bool_cases}
use Rattle.machine.specs.Words.{keep, flat}

pub eqb_swap : (a b : ℕ) → eqb a b ≡ eqb b a
eqb_swap a b = bool_cases (eqb a b) (λ e. e ∙ sym (eq-eqb b a (sym (eqb-true a b e)))) (λ e. e ∙ sym (ne_eqb b a (λ f. eqb-false a b e (sym f))))

pub behind_none : {A : Type 0} (xs : List A) → xs ++ [] ≡ xs
behind_none [] = refl
behind_none (x ∷ xs) = ap (λ ys. x ∷ ys) (behind_none xs)

module _ {A : Type 0} where
  pub keep_append : (f : A → Bool) (xs ys : List A) → keep f (xs ++ ys) ≡ keep f xs ++ keep f ys
  keep_append f [] ys = refl
  keep_append f (x ∷ xs) ys = go (f x) (keep_append f xs ys)
    where
      go : (b : Bool) → keep f (xs ++ ys) ≡ keep f xs ++ keep f ys → pick b (x ∷ keep f (xs ++ ys)) (keep f (xs ++ ys)) ≡ pick b (x ∷ keep f xs) (keep f xs) ++ keep f ys
      go true r = ap (λ zs. x ∷ zs) r
      go false r = r

  -- what f keeps, g keeps
  pub keep_kept : (f g : A → Bool) → ((x : A) → f x ≡ true → g x ≡ true) → (xs : List A) → keep f (keep g xs) ≡ keep f xs
  keep_kept f g h [] = refl
  keep_kept f g h (x ∷ xs) = go (f x) (g x) refl refl (keep_kept f g h xs)
    where
      go : (a b : Bool) → f x ≡ a → g x ≡ b → keep f (keep g xs) ≡ keep f xs → keep f (pick b (x ∷ keep g xs) (keep g xs)) ≡ pick a (x ∷ keep f xs) (keep f xs)
      go true true p q r = rw (p, r)
      go true false p q r = not_both (h x p) q
      go false true p q r = rw (p, r)
      go false false p q r = r

  pub keep_nothing : (f g : A → Bool) → ((x : A) → f x ≡ true → g x ≡ false) → (xs : List A) → keep f (keep g xs) ≡ []
  keep_nothing f g h [] = refl
  keep_nothing f g h (x ∷ xs) = go (f x) (g x) refl refl (keep_nothing f g h xs)
    where
      go : (a b : Bool) → f x ≡ a → g x ≡ b → keep f (keep g xs) ≡ [] → keep f (pick b (x ∷ keep g xs) (keep g xs)) ≡ []
      go true true p q r = not_both q (h x p)
      go true false p q r = r
      go false true p q r = rw p r
      go false false p q r = r

  pub keep_both : (f g : A → Bool) (xs : List A) → keep (λ x. both (f x) (g x)) xs ≡ keep g (keep f xs)
  keep_both f g [] = refl
  keep_both f g (x ∷ xs) = go (f x) (g x) refl (keep_both f g xs)
    where
      go : (a b : Bool) → g x ≡ b → keep (λ x. both (f x) (g x)) xs ≡ keep g (keep f xs)
          → pick (both a b) (x ∷ keep (λ x. both (f x) (g x)) xs) (keep (λ x. both (f x) (g x)) xs) ≡ keep g (pick a (x ∷ keep f xs) (keep f xs))
      go true true q r = rw (q, r)
      go true false q r = rw (q, r)
      go false b q r = r

  pub keep_map : (f : A → Bool) (g : A → A) → ((x : A) → f (g x) ≡ f x) → (xs : List A) → keep f (map g xs) ≡ map g (keep f xs)
  keep_map f g h [] = refl
  keep_map f g h (x ∷ xs) = go (f x) (f (g x)) (h x) (keep_map f g h xs)
    where
      go : (a b : Bool) → b ≡ a → keep f (map g xs) ≡ map g (keep f xs) → pick b (g x ∷ keep f (map g xs)) (keep f (map g xs)) ≡ map g (pick a (x ∷ keep f xs) (keep f xs))
      go true true e r = rw r
      go true false e r = untrue e
      go false true e r = untrue (sym e)
      go false false e r = r

module _ {A B : Type 0} where
  pub flat_same : {f g : A → List B} → ((x : A) → f x ≡ g x) → (xs : List A) → flat f xs ≡ flat g xs
  flat_same h [] = refl
  flat_same h (x ∷ xs) = rw (h x, flat_same h xs)

  pub flat_none : {f : A → List B} → ((x : A) → f x ≡ []) → (xs : List A) → flat f xs ≡ []
  flat_none h [] = refl
  flat_none h (x ∷ xs) = rw (h x) (flat_none h xs)

  map-append : (g : A → B) (xs ys : List A) → map g (xs ++ ys) ≡ map g xs ++ map g ys
  map-append g [] ys = refl
  map-append g (x ∷ xs) ys = ap (λ zs. g x ∷ zs) (map-append g xs ys)

pub map_flat : {A B C : Type 0} (g : B → C) (f : A → List B) (xs : List A) → map g (flat f xs) ≡ flat (λ x. map g (f x)) xs
map_flat g f [] = refl
map_flat g f (x ∷ xs) = map-append g (f x) (flat f xs) ∙ rw (map_flat g f xs)

-- one that is kept or not
pub kept_one : {A B : Type 0} (g : A → B) (f : A → Bool) (x : A) (b : Bool) (y : B) → f x ≡ b → g x ≡ y → map g (keep f (x ∷ [])) ≡ pick b (y ∷ []) []
kept_one g f x true y e same = rw (e, same)
kept_one g f x false y e same = rw e

pub either_false : (b : Bool) → b ≡ pick b true false
either_false true = refl
either_false false = refl
