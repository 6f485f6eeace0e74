-- Laws of the machine's lists: what leaving out the first, keeping and changing do to counts; cases of what may be there or not.
-- Assumes nothing.
use Rattle.basis.proofs.Std.{ℕ, zero, suc, ◌+◌, ◌≤◌, ◌<◌, ◌≡◌, refl, ap, Bool, true, false, not, List, [], ◌∷◌, ◌++◌, map, Option, some, none, length, get_or, arith, both, bit, count, Among, picked, not_both}
use Rattle.basis.specs.Lists.Among.{first, later}
use Rattle.basis.proofs.Among.{among_none}
use Rattle.machine.specs.Words.{maybe, keep, but_first, flat, changed, up_to}

pub bit_true : (b : Bool) → b ≡ true → bit b ≡ 1
bit_true b e = rw e

pub bit_false : (b : Bool) → b ≡ false → bit b ≡ 0
bit_false b e = rw e

pub bit_le : (b : Bool) → bit b ≤ 1
bit_le true = omega arith
bit_le false = omega arith

pub no_left : (a b : Bool) → a ≡ false → both a b ≡ false
no_left a b e = rw e

pub maybe_cases : {A B : Type 0} (P : B → Type 0) (b : B) (f : A → B) (o : Option A) → (o ≡ none → P b) → ((a : A) → o ≡ some a → P (f a)) → P (maybe b f o)
maybe_cases P b f none g h = g refl
maybe_cases P b f (some a) g h = h a refl

-- each of a list is so
pub data Each {A : Type 0} (P : A → Type 0) : List A → Type 0 where
  no_more : Each P []
  one_more : {x : A} {xs : List A} → P x → Each P xs → Each P (x ∷ xs)

module _ {A : Type 0} {P : A → Type 0} where
  pub each_append : {xs ys : List A} → Each P xs → Each P ys → Each P (xs ++ ys)
  each_append no_more ys = ys
  each_append (one_more p xs) ys = one_more p (each_append xs ys)

  pub each_but_first : (f : A → Bool) {xs : List A} → Each P xs → Each P (but_first f xs)
  each_but_first f no_more = no_more
  each_but_first f (one_more {x} {xs} p r) = picked (Each P) (f x) xs (x ∷ but_first f xs) (λ e. r) (λ e. one_more p (each_but_first f r))

  pub each_keep : (f : A → Bool) {xs : List A} → Each P xs → Each P (keep f xs)
  each_keep f no_more = no_more
  each_keep f (one_more {x} {xs} p r) = picked (Each P) (f x) (x ∷ keep f xs) (keep f xs) (λ e. one_more p (each_keep f r)) (λ e. each_keep f r)

pub each_map : {A B : Type 0} {P : A → Type 0} {Q : B → Type 0} (g : A → B) → ((x : A) → P x → Q (g x)) → {xs : List A} → Each P xs → Each Q (map g xs)
each_map g q no_more = no_more
each_map g q (one_more p r) = one_more (q _ p) (each_map g q r)

pub each_of : {A B : Type 0} {Q : B → Type 0} (g : A → B) → ((x : A) → Q (g x)) → (xs : List A) → Each Q (map g xs)
each_of g q [] = no_more
each_of g q (x ∷ xs) = one_more (q x) (each_of g q xs)

pub each_kept : {A : Type 0} {P : A → Type 0} (f : A → Bool) → ((x : A) → f x ≡ true → P x) → (xs : List A) → Each P (keep f xs)
each_kept f p [] = no_more
each_kept {P = P} f p (x ∷ xs) = picked (Each P) (f x) (x ∷ keep f xs) (keep f xs) (λ e. one_more (p x e) (each_kept f p xs)) (λ e. each_kept f p xs)

pub each_flat : {A B : Type 0} {P : A → Type 0} {Q : B → Type 0} (f : A → List B) → ((x : A) → P x → Each Q (f x)) → {xs : List A} → Each P xs → Each Q (flat f xs)
each_flat f q no_more = no_more
each_flat f q (one_more {x} p r) = each_append (q x p) (each_flat f q r)

pub each_below : (n : ℕ) → Each (λ (l : ℕ). l < n) (up_to n)
each_below n = go n n (omega arith)
  where
    go : (n k : ℕ) → n ≤ k → Each (λ (l : ℕ). l < k) (up_to n)
    go zero k h = no_more
    go (suc n) k h = each_append (go n k (omega arith)) (one_more (omega arith) no_more)

module _ {A : Type 0} where
  pub among_last : (xs : List A) (x : A) → Among x (xs ++ (x ∷ []))
  among_last [] x = first
  among_last (y ∷ xs) x = later (among_last xs x)

  pub among_keep : (f : A → Bool) {x : A} {xs : List A} → f x ≡ true → Among x xs → Among x (keep f xs)
  among_keep f {x} e (first {xs}) = picked (Among x) (f x) (x ∷ keep f xs) (keep f xs) (λ g. first) (λ g. not_both e g)
  among_keep f {x} e (later {y} {xs} a) =
      picked (Among x) (f y) (y ∷ keep f xs) (keep f xs) (λ g. later (among_keep f e a)) (λ g. among_keep f e a)

  among_behind : {x y : A} {xs ys : List A} → (Among x xs → Among x ys) → Among x (y ∷ xs) → Among x (y ∷ ys)
  among_behind h first = first
  among_behind h (later a) = later (h a)

  pub among_but_first : (f : A → Bool) {x : A} (xs : List A) → Among x (but_first f xs) → Among x xs
  among_but_first f [] = λ a. a
  among_but_first f {x} (y ∷ xs) = picked (λ (r : List A). Among x r → Among x (y ∷ xs)) (f y) xs (y ∷ but_first f xs) (λ e a. later a) (λ e. among_behind (among_but_first f xs))

  pub among_kept : (f : A → Bool) {x : A} (xs : List A) → Among x (keep f xs) → Among x xs
  among_kept f [] = λ a. a
  among_kept f {x} (y ∷ xs) =
      picked (λ (r : List A). Among x r → Among x (y ∷ xs)) (f y) (y ∷ keep f xs) (keep f xs) (λ e. among_behind (among_kept f xs)) (λ e a. later (among_kept f xs a))

pub among_map : {A B : Type 0} (g : A → B) {x : A} {xs : List A} → Among x xs → Among (g x) (map g xs)
among_map g first = first
among_map g (later a) = later (among_map g a)

-- what stands in a mapped list comes from one of the list
pub record MapOf {A B : Type 0} (g : A → B) (y : B) (xs : List A) : Type 0 where
  pub of : A
  pub among : Among of xs
  pub is : g of ≡ y

pub among_mapped : {A B : Type 0} (g : A → B) {y : B} (xs : List A) → Among y (map g xs) → MapOf g y xs
among_mapped g {y} [] a = among_none a
among_mapped g {y} (x ∷ xs) first = record { of = x; among = first; is = refl }
among_mapped g {y} (x ∷ xs) (later a) =
    let r = among_mapped g xs a in
    record { of = r.of; among = later r.among; is = r.is }

module _ {A : Type 0} (f : A → Bool) where
  pub count_last : (xs : List A) (y : A) → count f (xs ++ (y ∷ [])) ≡ count f xs + bit (f y)
  count_last [] y = omega arith
  count_last (x ∷ xs) y = omega (arith, count_last xs y)

  -- the first that passes counts out
  pub count_but_first : (xs : List A) → 1 ≤ count f xs → count f (but_first f xs) + 1 ≡ count f xs
  count_but_first [] h = absurd (omega arith)
  count_but_first (x ∷ xs) h =
      picked (λ (r : List A). count f r + 1 ≡ bit (f x) + count f xs) (f x) xs (x ∷ but_first f xs)
      (λ e. omega (arith, bit_true (f x) e))
      (λ e. omega (arith, count_but_first xs (omega (arith, bit_false (f x) e))))

  pub length_but_first : (xs : List A) → 1 ≤ count f xs → length (but_first f xs) + 1 ≡ length xs
  length_but_first [] h = absurd (omega arith)
  length_but_first (x ∷ xs) h =
      picked (λ (r : List A). length r + 1 ≡ length (x ∷ xs)) (f x) xs (x ∷ but_first f xs)
      (λ e. omega arith)
      (λ e. omega (arith, length_but_first xs (omega (arith, bit_false (f x) e))))

  pub length_keep : (xs : List A) → length (keep f xs) ≤ length xs
  length_keep [] = omega arith
  length_keep (x ∷ xs) =
      picked (λ (r : List A). length r ≤ length (x ∷ xs)) (f x) (x ∷ keep f xs) (keep f xs)
      (λ e. omega (arith, length_keep xs))
      (λ e. omega (arith, length_keep xs))

module _ {A : Type 0} (f g : A → Bool) where
  pub count_left : (xs : List A) → count g (but_first f xs) ≤ count g xs
  count_left [] = omega arith
  count_left (x ∷ xs) =
      picked (λ (r : List A). count g r ≤ bit (g x) + count g xs) (f x) xs (x ∷ but_first f xs) (λ e. omega arith) (λ e. omega (arith, count_left xs))

  pub count_keep : (xs : List A) → count g (keep f xs) ≤ count g xs
  count_keep [] = omega arith
  count_keep (x ∷ xs) =
      picked (λ (r : List A). count g r ≤ bit (g x) + count g xs) (f x) (x ∷ keep f xs) (keep f xs)
      (λ e. omega (arith, count_keep xs))
      (λ e. omega (arith, count_keep xs))

  -- where all that it counts are kept
  pub count_kept : ((x : A) → g x ≡ true → f x ≡ true) → (xs : List A) → count g (keep f xs) ≡ count g xs
  count_kept h [] = refl
  count_kept h (x ∷ xs) =
      picked (λ (r : List A). count g r ≡ bit (g x) + count g xs) (f x) (x ∷ keep f xs) (keep f xs)
      (λ e. omega (arith, count_kept h xs))
      (λ e. omega (arith, bit_false (g x) (untaken e (g x) refl), count_kept h xs))
    where
      untaken : f x ≡ false → (b : Bool) → g x ≡ b → g x ≡ false
      untaken e true t = not_both (h x t) e
      untaken e false t = t

  -- of those that it counts, the kept and the others
  pub count_parted : (xs : List A) → count g (keep (λ (x : A). not (both (g x) (f x))) xs) + count (λ (x : A). both (g x) (f x)) xs ≡ count g xs
  count_parted [] = refl
  count_parted (x ∷ xs) = go (g x) (f x) refl refl (count_parted xs)
    where
      go : (a b : Bool) → g x ≡ a → f x ≡ b
          → count g (keep (λ (x : A). not (both (g x) (f x))) xs) + count (λ (x : A). both (g x) (f x)) xs ≡ count g xs
          → count g (keep (λ (x : A). not (both (g x) (f x))) (x ∷ xs)) + count (λ (x : A). both (g x) (f x)) (x ∷ xs) ≡ count g (x ∷ xs)
      go true true p q r = rw (p, q) (omega (arith, r))
      go true false p q r = rw (p, q) (rw p (omega (arith, r)))
      go false b p q r = rw p (rw p (omega (arith, r)))

  -- one that another test does not take counts on
  pub count_other : ((x : A) → f x ≡ true → g x ≡ false) → (xs : List A) → count g (but_first f xs) ≡ count g xs
  count_other h [] = refl
  count_other h (x ∷ xs) =
      picked (λ (r : List A). count g r ≡ bit (g x) + count g xs) (f x) xs (x ∷ but_first f xs)
      (λ e. omega (arith, bit_false (g x) (h x e)))
      (λ e. omega (arith, count_other h xs))

pub count_map : {A B : Type 0} (f : B → Bool) (k : A → Bool) (g : A → B) → ((x : A) → f (g x) ≡ k x) → (xs : List A) → count f (map g xs) ≡ count k xs
count_map f k g h [] = refl
count_map f k g h (x ∷ xs) = omega (arith, ap bit (h x), count_map f k g h xs)

pub length-map : {A B : Type 0} (g : A → B) (xs : List A) → length (map g xs) ≡ length xs
length-map g [] = refl
length-map g (x ∷ xs) = omega (arith, length-map g xs)

pub length_last : {A : Type 0} (xs : List A) (y : A) → length (xs ++ (y ∷ [])) ≡ length xs + 1
length_last [] y = refl
length_last (x ∷ xs) y = omega (arith, length_last xs y)

pub length_changed : {A : Type 0} (i : ℕ) (g : A → A) (xs : List A) → length (changed i g xs) ≡ length xs
length_changed i g [] = refl
length_changed zero g (x ∷ xs) = refl
length_changed (suc i) g (x ∷ xs) = omega (arith, length_changed i g xs)

pub got_changed : (i : ℕ) (g : ℕ → ℕ) (xs : List ℕ) → i < length xs → get_or (changed i g xs) i 0 ≡ g (get_or xs i 0)
got_changed i g [] h = absurd (omega arith)
got_changed zero g (x ∷ xs) h = refl
got_changed (suc i) g (x ∷ xs) h = got_changed i g xs (omega arith)

pub got_other : (i k : ℕ) (g : ℕ → ℕ) (xs : List ℕ) → (i ≡ k → ⊥) → get_or (changed i g xs) k 0 ≡ get_or xs k 0
got_other i k g [] n = refl
got_other zero zero g (x ∷ xs) n = absurd (n refl)
got_other zero (suc k) g (x ∷ xs) n = refl
got_other (suc i) zero g (x ∷ xs) n = refl
got_other (suc i) (suc k) g (x ∷ xs) n = got_other i k g xs (λ e. n (ap suc e))
