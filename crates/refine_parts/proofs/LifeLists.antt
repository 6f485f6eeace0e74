-- Laws of the machine's lists: what is among them, counted and found first.
-- Assumes nothing.
use Rattle.basis.proofs.Std.{ℕ, ◌+◌, ◌≤◌, ◌<◌, ◌≡◌, refl, sym, Bool, true, false, List, [], ◌∷◌, ◌++◌, Option, some, none, arith, ltb, length, lt-ltb, zero-add, pick, both, bit, count, Among, bool_cases, picked}
use Rattle.basis.specs.Lists.Among.{first, later}
use Rattle.awaited.proofs.Change.{bit_true, bit_false}
use Rattle.machine.specs.Words.{any, is_some, first_that, but_first}

module _ {A : Type 0} where
  -- nothing is among none
  pub among_none : {P : Type 0} {w : A} {xs : List A} → length xs ≡ 0 → Among w xs → P
  among_none e first = absurd (omega arith)
  among_none e (later a) = absurd (omega arith)

  among_pick : (b : Bool) {w x : A} {xs ys : List A} → Among w (pick b xs (x ∷ ys)) → (Among w ys → Among w xs) → Among w (x ∷ xs)
  among_pick true i r = later i
  among_pick false first r = first
  among_pick false (later i) r = later (r i)

  pub among_but_first : (f : A → Bool) {w : A} (xs : List A) → Among w (but_first f xs) → Among w xs
  among_but_first f [] a = a
  among_but_first f (x ∷ xs) a = among_pick (f x) a (among_but_first f xs)

  -- what holds of each and of one more holds of each of both
  pub among_last : (P : A → Type 0) (xs : List A) (y : A) → ((w : A) → Among w xs → P w) → P y → (w : A) → Among w (xs ++ (y ∷ [])) → P w
  among_last P [] y f p w (later a) = elim a [ ]
  among_last P [] y f p w first = p
  among_last P (x ∷ xs) y f p w first = f x first
  among_last P (x ∷ xs) y f p w (later a) = among_last P xs y (λ v i. f v (later i)) p w a

  pub first_among : (f : A → Bool) (xs : List A) (w : A) → first_that f xs ≡ some w → Among w xs
  first_among f [] w e = absurd (let z : ◌≡◌ {A = ℕ} 0 1 = cc in omega arith)
  first_among f (x ∷ xs) w e = go (f x) e (first_among f xs w)
    where
      same : (u v : A) → some u ≡ some v → u ≡ v
      same u v e = cc

      go : (b : Bool) → pick b (some x) (first_that f xs) ≡ some w → (first_that f xs ≡ some w → Among w xs) → Among w (x ∷ xs)
      go true e r = rw (same x w e) first
      go false e r = later (r e)

  pub first_same : (f g : A → Bool) (xs : List A) → ((w : A) → Among w xs → f w ≡ g w) → first_that f xs ≡ first_that g xs
  first_same f g [] h = refl
  first_same f g (x ∷ xs) h = rw (h x first, first_same f g xs (λ w a. h w (later a)))

  pub first_never : (f : A → Bool) (xs : List A) → ((w : A) → Among w xs → f w ≡ false) → first_that f xs ≡ none
  first_never f [] h = refl
  first_never f (x ∷ xs) h = rw (h x first, first_never f xs (λ w a. h w (later a)))

  pub but_first_same : (f g : A → Bool) (xs : List A) → ((w : A) → Among w xs → f w ≡ g w) → but_first f xs ≡ but_first g xs
  but_first_same f g [] h = refl
  but_first_same f g (x ∷ xs) h = rw (h x first, but_first_same f g xs (λ w a. h w (later a)))

  pub any_first : (f : A → Bool) (xs : List A) → any f xs ≡ is_some (first_that f xs)
  any_first f [] = refl
  any_first f (x ∷ xs) = bool_cases (f x) (λ t. rw t) (λ t. rw t (any_first f xs))

  pub any_count : (f : A → Bool) (xs : List A) → any f xs ≡ ltb 0 (count f xs)
  any_count f [] = refl
  any_count f (x ∷ xs) =
      bool_cases (f x) (λ t. rw t (sym (lt-ltb 0 (1 + count f xs) (omega arith)))) (λ t. rw (t, zero-add) (any_count f xs))

  pub count_last : (f : A → Bool) (xs : List A) (y : A) → count f (xs ++ (y ∷ [])) ≡ count f xs + bit (f y)
  count_last f [] y = omega arith
  count_last f (x ∷ xs) y = omega (arith, count_last f xs y)

  pub count_every : (xs : List A) → count (λ (x : A). true) xs ≡ length xs
  count_every [] = refl
  count_every (x ∷ xs) = omega (arith, count_every xs)

  -- where one at most passes, the others are counted where it is left out
  pub count_others : (f g : A → Bool) (xs : List A) → count f xs ≤ 1 → count (λ (x : A). pick (f x) false (g x)) xs ≡ count g (but_first f xs)
  count_others f g [] h = refl
  count_others f g (x ∷ xs) h = bool_cases (f x) (λ t. rw t (none xs (omega (arith, bit_true (f x) t)))) (λ t. rw t (omega (arith, count_others f g xs (omega arith))))
    where
      none : (ys : List A) → count f ys ≡ 0 → 0 + count (λ (x : A). pick (f x) false (g x)) ys ≡ count g ys
      none [] e = refl
      none (y ∷ ys) e =
          bool_cases (f y) (λ t. absurd (omega (arith, bit_true (f y) t)))
          (λ t. rw t (omega (arith, none ys (omega (arith, bit_false (f y) t)))))

  pub first_none : (f : A → Bool) (xs : List A) → count f xs ≡ 0 → first_that f xs ≡ none
  first_none f [] e = refl
  first_none f (x ∷ xs) e =
      bool_cases (f x) (λ t. absurd (omega (arith, bit_true (f x) t))) (λ t. rw t (first_none f xs (omega (arith, bit_false (f x) t))))

  -- where one at most passes f and one passes f and g, it is the first that passes f
  pub first_both : (f g : A → Bool) (xs : List A) → count f xs ≤ 1 → 0 < count (λ (x : A). both (f x) (g x)) xs
      → (P : Option A → Type 0) → ((w : A) → f w ≡ true → g w ≡ true → P (some w)) → P (first_that f xs)
  first_both f g [] h n P p = absurd (omega arith)
  first_both f g (x ∷ xs) h n P p =
      picked P (f x) (some x) (first_that f xs)
      (λ t. p x t (bool_cases (g x) (λ u. u)
      (λ u. absurd (omega (arith, bit_true (f x) t, none xs (omega (arith, bit_true (f x) t)), bit_false (both (f x) (g x)) (rw t u))))))
      (λ t. first_both f g xs (omega arith) (omega (arith, bit_false (both (f x) (g x)) (rw t))) P p)
    where
      none : (ys : List A) → count f ys ≡ 0 → count (λ (x : A). both (f x) (g x)) ys ≡ 0
      none [] e = refl
      none (y ∷ ys) e =
          bool_cases (f y) (λ t. absurd (omega (arith, bit_true (f y) t)))
          (λ t. rw t (omega (arith, none ys (omega (arith, bit_false (f y) t)))))
