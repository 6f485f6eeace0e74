-- Laws of tests and of the first that passes.
-- Assumes nothing.
use Rattle.basis.proofs.Std.{ℕ, ◌≡◌, refl, Bool, true, false, not, List, [], ◌∷◌, some, arith, pick, both, not_both}
use Rattle.machine.specs.Words.{first_that}
use Rattle.demand_held.proofs.Lists.{Each}
use Rattle.demand_held.proofs.Lists.Each.{no_more, one_more}

pub must : (a b : Bool) → a ≡ true → both a (not b) ≡ false → b ≡ true
must a true e f = refl
must true false e f = not_both refl f
must false false e f = e

pub no_not : (b : Bool) → not b ≡ false → b ≡ true
no_not true e = refl
no_not false e = not_both refl e

pub neither : (a b : Bool) → pick a true b ≡ false → (a ≡ false) × (b ≡ false)
neither true b e = not_both refl e
neither false b e = (refl, e)

-- the first that passes passes, and is as all are
pub found : {A : Type 0} {P : A → Type 0} (f : A → Bool) (xs : List A) (x : A) → Each P xs → first_that f xs ≡ some x → P x × (f x ≡ true)
found f [] x no_more e = absurd (let z : ◌≡◌ {A = ℕ} 0 1 = cc in omega arith)
found {A} {P} f (y ∷ xs) x (one_more p r) e = go (f y) refl e (found f xs x r)
  where
    go : (b : Bool) → f y ≡ b → pick b (some y) (first_that f xs) ≡ some x → (first_that f xs ≡ some x → P x × (f x ≡ true)) → P x × (f x ≡ true)
    go true g q s = let same : y ≡ x = cc in (rw same at p, rw same at g)
    go false g q s = s q
