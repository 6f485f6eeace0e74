-- `same_bytes` says whether two lists are the same.
-- Assumes nothing.
use mathlib.Core.Path.{◌≡◌, refl, sym, ap₂, subst}
use mathlib.Core.Bool.{Bool, true, false}
use mathlib.Core.List.{List, [], ◌∷◌}
use Prim.Native.Nat.{ℕ}
use lib.Dec.{T, eqb, eqb→eq, eqb_refl}
use Rattle.basis.specs.Pick.{both}
use Rattle.basis.specs.Lists.{same_bytes}
use Rattle.basis.proofs.Table.{both_left, both_right}

same_eq : (xs ys : List ℕ) → T (same_bytes xs ys) → xs ≡ ys
same_eq [] [] t = refl
same_eq [] (y ∷ ys) t = absurd t
same_eq (x ∷ xs) [] t = absurd t
same_eq (x ∷ xs) (y ∷ ys) t = ap₂ (λ (a : ℕ) (l : List ℕ). a ∷ l) (eqb→eq x y (both_left (eqb x y) _ t)) (same_eq xs ys (both_right (eqb x y) _ t))

same_refl : (xs : List ℕ) → T (same_bytes xs xs)
same_refl [] = tt
same_refl (x ∷ xs) = both_i (eqb x x) (same_bytes xs xs) (eqb_refl x) (same_refl xs)
  where
    both_i : (a b : Bool) → T a → T b → T (both a b)
    both_i true b t u = u
    both_i false b t u = absurd t

-- a test that says whether two lists are the same is `same_bytes`
pub same_is : (xs ys : List ℕ) (b : Bool) → (b ≡ true → xs ≡ ys) → (xs ≡ ys → b ≡ true) → b ≡ same_bytes xs ys
same_is xs ys b f g = by b (same_bytes xs ys) f g (same_eq xs ys) (λ e. subst (λ (l : List ℕ). T (same_bytes xs l)) e (same_refl xs))
  where
    by : (b c : Bool) → (b ≡ true → xs ≡ ys) → (xs ≡ ys → b ≡ true) → (T c → xs ≡ ys) → (xs ≡ ys → T c) → b ≡ c
    by true true f g h k = refl
    by false false f g h k = refl
    by true false f g h k = absurd (k (f refl))
    by false true f g h k = g (h tt)

pub same_true : (xs ys : List ℕ) → same_bytes xs ys ≡ true → xs ≡ ys
same_true xs ys e = same_eq xs ys (subst T (sym e) tt)

pub same_self : (xs : List ℕ) → same_bytes xs xs ≡ true
same_self xs = by (same_bytes xs xs) (same_refl xs)
  where
    by : (b : Bool) → T b → b ≡ true
    by true t = refl
    by false t = absurd t
