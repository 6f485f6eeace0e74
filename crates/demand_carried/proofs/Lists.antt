-- Laws of lists: two properties of each, the first that passes, and what is left without it.
-- Assumes nothing.
use Rattle.basis.proofs.Std.{ℕ, ◌≤◌, ◌≡◌, refl, Bool, true, false, List, [], ◌∷◌, some, none, arith, pick, count, Among, bool_cases, picked}
use Rattle.basis.specs.Lists.Among.{first, later}
use Rattle.machine.specs.Words.{first_that, but_first}
use Rattle.demand_held.proofs.Lists.{bit_true, bit_false, Each}
use Rattle.demand_held.proofs.Lists.Each.{no_more, one_more}

pub both_each : {A : Type 0} {P Q R : A → Type 0} → ((x : A) → P x → Q x → R x) → {xs : List A} → Each P xs → Each Q xs → Each R xs
both_each f no_more no_more = no_more
both_each f (one_more p r) (one_more q t) = one_more (f _ p q) (both_each f r t)

pub each_so : {A : Type 0} {P Q : A → Type 0} → ((x : A) → P x → Q x) → {xs : List A} → Each P xs → Each Q xs
each_so f no_more = no_more
each_so f (one_more p r) = one_more (f _ p) (each_so f r)

pub every : {A : Type 0} {P : A → Type 0} → ((x : A) → P x) → (xs : List A) → Each P xs
every f [] = no_more
every f (x ∷ xs) = one_more (f x) (every f xs)

pub each_among : {A : Type 0} {P : A → Type 0} {x : A} {xs : List A} → Each P xs → Among x xs → P x
each_among {A = A} {P = P} no_more x4 = elim x4 [ ]
each_among (one_more p r) first = p
each_among (one_more p r) (later a) = each_among r a

module _ {A : Type 0} (f : A → Bool) where
  abbrev pub Fails : A → Type 0
  Fails x = f x ≡ false

  pub found_among : (xs : List A) (x : A) → first_that f xs ≡ some x → Among x xs × (f x ≡ true)
  found_among [] x e = absurd (let z : ◌≡◌ {A = ℕ} 0 1 = cc in omega arith)
  found_among (y ∷ xs) x e = go (f y) refl e (found_among xs x)
    where
      go : (b : Bool) → f y ≡ b → pick b (some y) (first_that f xs) ≡ some x → (first_that f xs ≡ some x → Among x xs × (f x ≡ true)) → Among x (y ∷ xs) × (f x ≡ true)
      go true g q s = let same : y ≡ x = cc in (rw same first, rw same at g)
      go false g q s = let r = s q in (later r.0, r.1)

  pub none_passes : (xs : List A) → first_that f xs ≡ none → Each Fails xs
  none_passes [] e = no_more
  none_passes (y ∷ xs) e = go (f y) refl e (none_passes xs)
    where
      go : (b : Bool) → f y ≡ b → pick b (some y) (first_that f xs) ≡ none → (first_that f xs ≡ none → Each Fails xs) → Each Fails (y ∷ xs)
      go true g q s = absurd (let z : ◌≡◌ {A = ℕ} 0 1 = cc in omega arith)
      go false g q s = one_more g (s q)

  none_counted : (xs : List A) → count f xs ≤ 0 → Each Fails xs
  none_counted [] h = no_more
  none_counted (x ∷ xs) h =
      bool_cases (f x)
      (λ e. absurd (omega (arith, bit_true (f x) e)))
      (λ e. one_more e (none_counted xs (omega (arith, bit_false (f x) e))))

  -- where one passes at most, none is left without the first
  pub none_left : (xs : List A) → count f xs ≤ 1 → Each Fails (but_first f xs)
  none_left [] h = no_more
  none_left (x ∷ xs) h =
      picked (Each Fails) (f x) xs (x ∷ but_first f xs)
      (λ e. none_counted xs (omega (arith, bit_true (f x) e)))
      (λ e. one_more e (none_left xs (omega (arith, bit_false (f x) e))))
