-- The places of the pool: what may be asked of one, and the place of the oldest and of the newest record among those asked for.
-- A place's mark: 0 it is free, 1 it holds a record that is not sent, 2 one that is sent.
-- Assumes nothing.
use Rattle.std.specs.Prelude.{ℕ, suc, List, [], ◌∷◌, Bool, leb, ltb, eqb}
use Rattle.basis.specs.Pick.{pick, both}
use Rattle.entry.specs.declared.Entry.{Entry}
use Rattle.pool.specs.declared.Place.{Place}
use Rattle.pool.specs.declared.Wanted.{Wanted}
use Rattle.pool.specs.declared.Wanted.TheVariants.{Free, Of, Unsent, Older, Numbered, Alarm}
use Rattle.pool.specs.declared.Spot.{Spot}
use Rattle.pool.specs.declared.Spot.TheVariants.{At, Nowhere}
use Rattle.pool.specs.declared.Sought.{Sought}
use Rattle.pool.specs.declared.Sought.TheVariants.{Found, Nothing}

abbrev pub no_entry : Entry
no_entry = record { time = 0; value = 0; sequence = 0; link = 0; kind = 0; item = 0; flags = 0 }

-- a free place
abbrev pub no_place : Place
no_place = record { entry = no_entry; mark = 0 }

-- it holds a record of owner l
abbrev pub of : ℕ → Place → Bool
of l x = both (ltb 0 x.mark) (eqb x.entry.link l)

-- what is asked of a place: that it is free; that it holds a record of owner l, one not sent, one older than the number q,
-- the one numbered q, one of the alarm k
abbrev pub fits : Wanted → Place → Bool
fits Free x = eqb x.mark 0
fits (Of l) x = of l x
fits (Unsent l) x = both (of l x) (eqb x.mark 1)
fits (Older l q) x = both (of l x) (ltb x.entry.sequence q)
fits (Numbered l q) x = both (of l x) (eqb x.entry.sequence q)
fits (Alarm l k) x = both (of l x) (both (eqb x.entry.kind 0) (eqb x.entry.item k))

-- of the place i, where x stands, and what was found behind it: the one with the lower number, the first where they are equal
abbrev pub lower : ℕ → Place → Spot → Spot
lower i x Nowhere = At i x
lower i x (At j y) = pick (leb x.entry.sequence y.entry.sequence) (At i x) (At j y)

-- the one with the higher number
abbrev pub higher : ℕ → Place → Spot → Spot
higher i x Nowhere = At i x
higher i x (At j y) = pick (ltb y.entry.sequence x.entry.sequence) (At i x) (At j y)

-- a place that passes the test (t) is weighed against what was found behind it
abbrev pub older : Bool → ℕ → Place → Spot → Spot
older t i x b = pick t (lower i x b) b

abbrev pub newer : Bool → ℕ → Place → Spot → Spot
newer t i x b = pick t (higher i x b) b

unfoldable pub oldest_from : (Place → Bool) → ℕ → List Place → Spot
oldest_from f i [] = Nowhere
oldest_from f i (x ∷ p) = older (f x) i x (oldest_from f (suc i) p)

unfoldable pub newest_from : (Place → Bool) → ℕ → List Place → Spot
newest_from f i [] = Nowhere
newest_from f i (x ∷ p) = newer (f x) i x (newest_from f (suc i) p)

-- where the oldest record stands, and that record, among the places that pass the test
abbrev pub oldest : (Place → Bool) → List Place → Spot
oldest f p = oldest_from f 0 p

abbrev pub newest : (Place → Bool) → List Place → Spot
newest f p = newest_from f 0 p

abbrev pub sought_at : Spot → Sought
sought_at (At i x) = Found x
sought_at Nowhere = Nothing
