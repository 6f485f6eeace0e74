-- The search for the first place that passes: one turn of it, and what it finds.
-- Assumes nothing.
use Rattle.basis.proofs.Std.{◌≡◌, refl, ap, ◌∙◌, Bool, false, List, [], ◌∷◌, ℕ, zero, suc, ◌+◌, ◌-◌, ◌<◌, not-suc-le-zero, le_of_suc-le-suc, add-one, arith, length, get_or}
use Rattle.table_item.specs.declared.Found.{Found}
use Rattle.table_item.specs.Find.{first_from}

-- within a list the default does not matter
pub get_d_any : {A : Type 0} (l : List A) (i : ℕ) (d e : A) → i < length l → get_or l i d ≡ get_or l i e
get_d_any [] i d e h = absurd (not-suc-le-zero h)
get_d_any (x ∷ l) zero d e h = refl
get_d_any (x ∷ l) (suc i) d e h = get_d_any l i d e (le_of_suc-le-suc h)

-- a place that does not pass is left behind
pub goes_on_lem : (f : ℕ → Bool) (n i : ℕ) (r : Found) → r ≡ first_from f i (n - i) → i < n → f i ≡ false → r ≡ first_from f (i + 1) (n - (i + 1))
goes_on_lem f n i r e h t =
    let k : n - i ≡ suc (n - (i + 1)) = omega arith in
    e ∙ ap (first_from f i) k ∙ rw (t, add-one)
