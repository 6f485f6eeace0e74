-- The lowest free place.
-- Assumes nothing.
use Rattle.std.specs.Prelude.{ℕ, ◌<◌, ◌≡◌, List, true, false, get_or}
use Rattle.pool.specs.declared.Place.{Place}
use Rattle.pool.specs.declared.Spot.{Spot}
use Rattle.pool.specs.declared.Spot.TheVariants.{At, Nowhere}
use Rattle.pool.specs.declared.Wanted.TheVariants.{Free}
use Rattle.pool.specs.Places.{no_place, fits}

-- none of the first i places is free
abbrev pub Taken : List Place → ℕ → Type 0
Taken p i = (j : ℕ) → j < i → fits Free (get_or p j no_place) ≡ false

-- the spot is that of the lowest free place among 128, nowhere where none is free
pub data Vacant (p : List Place) : Spot → Type 0 where
  nowhere : Taken p 128 → Vacant p Nowhere
  there : {i : ℕ} {x : Place} → i < 128 → Taken p i → fits Free x ≡ true → x ≡ get_or p i no_place → Vacant p (At i x)
