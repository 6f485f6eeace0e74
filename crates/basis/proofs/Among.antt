-- Being one of a list: of none, of one, of the first of two lists in a row.
-- Assumes nothing.
use mathlib.Core.List.{List, [], ◌∷◌, ◌++◌}
use mathlib.Core.Logic.{◌⊎◌, inl, inr}
use Rattle.basis.specs.Lists.{Among}
use Rattle.basis.specs.Lists.Among.{first, later}

module _ {A : Type 0} where
  pub among_none : {x : A} {P : Type 0} → Among x [] → P
  among_none = elim [ ]

  pub among_one : (P : A → Type 0) (x y : A) → P y → Among x (y ∷ []) → P x
  among_one P x y p first = p
  among_one P x y p (later r) = among_none r

  pub among_left : {x : A} {xs : List A} (ys : List A) → Among x xs → Among x (xs ++ ys)
  among_left ys first = first
  among_left ys (later a) = later (among_left ys a)

  pub among_either : {x : A} (xs ys : List A) → Among x (xs ++ ys) → Among x xs ⊎ Among x ys
  among_either [] ys r = inr r
  among_either (y ∷ xs) ys first = inl first
  among_either {x} (y ∷ xs) ys (later r) = step (among_either xs ys r)
    where
      step : Among x xs ⊎ Among x ys → Among x (y ∷ xs) ⊎ Among x ys
      step (inl a) = inl (later a)
      step (inr b) = inr b
