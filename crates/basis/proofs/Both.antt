-- What two tests that both pass say of each, and that no test both passes and fails.
-- Assumes nothing.
use mathlib.Core.Path.{◌≡◌, refl, sym, ◌∙◌}
use mathlib.Core.Bool.{Bool, true, false, true≢false, false≢true}
use Rattle.basis.specs.Pick.{both}

pub untrue : {P : Type 0} → false ≡ true → P
untrue e = absurd (false≢true e)

pub not_both : {P : Type 0} {b : Bool} → b ≡ true → b ≡ false → P
not_both p q = absurd (true≢false (sym p ∙ q))

pub both_first : (a b : Bool) → both a b ≡ true → a ≡ true
both_first true b e = refl
both_first false b e = e

pub both_second : (a b : Bool) → both a b ≡ true → b ≡ true
both_second true b e = e
both_second false b e = untrue e

pub both_true : (a b : Bool) → both a b ≡ true → (a ≡ true) × (b ≡ true)
both_true a b e = (both_first a b e, both_second a b e)

pub both_of : {a b : Bool} → a ≡ true → b ≡ true → both a b ≡ true
both_of p q = rw (p, q)

pub both_false : (a : Bool) → both a false ≡ false
both_false true = refl
both_false false = refl

pub both_no : (a b : Bool) → b ≡ false → both a b ≡ false
both_no a b e = rw (e, both_false a)
