-- The library's words for what is said here by recursion, and what changing the first that passes comes to at its place.
-- Assumes nothing.
use Rattle.std.specs.Prelude.{Some, None}
use Rattle.std.proofs.lemmas.List.Recursion.{is_count_by}
use Rattle.std.specs.List.{position, position_or_len, count_by, list_any}
use Rattle.basis.proofs.Std.{ℕ, suc, ◌+◌, ◌∙◌, ◌≤◌, ◌<◌, ◌≡◌, refl, sym, ap, Bool, List, [], ◌∷◌, arith, length, set, ltb, ltb-true, ltb-false, bool_cases, zero-add, count}
use Rattle.awaited.specs.Lists.{change_first, some}

set_behind : {A : Type 0} (x : A) (l : List A) (n : ℕ) (a : A) → set (x ∷ l) (1 + n) a ≡ x ∷ set l n a
set_behind x l n a = let e : 1 + n ≡ suc n = omega arith in rw e

module _ {A : Type 0} (f : A → Bool) where
  pub position_here : (l : List A) (i : ℕ) → position f l ≡ Some i → (i ≡ position_or_len f l) × (i < length l)
  position_here l i e =
      bool_cases (ltb (position_or_len f l) (length l))
      (λ t. let z : i ≡ position_or_len f l = cc (rw t at e) in (z, omega (arith, ltb-true _ _ t, z)))
      (λ t. absurd (let z : ◌≡◌ {A = ℕ} 0 1 = cc (rw t at e) in omega arith))

  pub position_none : (l : List A) → position f l ≡ None → length l ≤ position_or_len f l
  position_none l e =
      bool_cases (ltb (position_or_len f l) (length l))
      (λ t. absurd (let z : ◌≡◌ {A = ℕ} 0 1 = cc (rw t at e) in omega arith))
      (λ t. ltb-false _ _ t)

  pub count_is : (l : List A) → count f l ≡ count_by f l
  count_is = is_count_by (count f) f refl (λ x l. bool_cases (f x) (λ t. rw t) (λ t. rw (t, zero-add)))

  pub some_is : (l : List A) → list_any f l ≡ some f l
  unfolding some
  some_is [] = refl
  some_is (x ∷ l) = bool_cases (f x) (λ t. rw t) (λ t. rw t (some_is l))

  -- the change stands at the first place
  pub change_set : (a : A) (l : List A) → change_first f a l ≡ set l (position_or_len f l) a
  unfolding change_first
  change_set a [] = refl
  change_set a (x ∷ l) = bool_cases (f x) (λ t. rw t) (λ t. rw t (ap (λ (k : List A). x ∷ k) (change_set a l) ∙ sym (set_behind x l (position_or_len f l) a)))

  pub change_length : (a : A) (l : List A) → length (change_first f a l) ≡ length l
  unfolding change_first
  change_length a [] = refl
  change_length a (x ∷ l) = bool_cases (f x) (λ t. rw t) (λ t. rw t (ap suc (change_length a l)))
