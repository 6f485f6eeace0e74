-- Lists of places: changing the first that passes a test, and whether one passes.
-- Assumes nothing.
use Rattle.std.specs.Prelude.{List, [], ◌∷◌, Bool, true, false}
use Rattle.basis.specs.Pick.{pick}

-- the first that passes becomes a; unchanged where none does
unfoldable pub change_first : {A : Type 0} → (A → Bool) → A → List A → List A
change_first f a [] = []
change_first f a (x ∷ l) = pick (f x) (a ∷ l) (x ∷ change_first f a l)

-- one passes
unfoldable pub some : {A : Type 0} → (A → Bool) → List A → Bool
some f [] = false
some f (x ∷ l) = pick (f x) true (some f l)
