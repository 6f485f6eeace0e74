-- Which records an act makes leave, and lists of acts in which no settle follows an issue.
-- Assumes nothing.
use Rattle.std.specs.Prelude.{ℕ, ◌+◌, ◌<◌, List, [], ◌∷◌, Bool, eqb}
use Rattle.basis.specs.Pick.{both}
use Rattle.basis.specs.Lists.{count}
use Rattle.pool.specs.declared.Place.{Place}
use Rattle.pool.specs.declared.Pool.{Pool}
use Rattle.pool.specs.declared.Wanted.TheVariants.{Numbered}
use Rattle.pool.specs.Places.{of, fits}
use Rattle.pool_laws.specs.Acts.{Act, act}
use Rattle.pool_laws.specs.Acts.Act.{Issue, Settle, Mark, Unmark}

-- the record of owner m numbered k is held
abbrev pub Held : Pool → ℕ → ℕ → Type 0
Held p m k = 0 < count (fits (Numbered m k)) p.places

-- it holds a record of owner m that the pool r does not hold
abbrev pub gone : Pool → ℕ → Place → Bool
gone r m x = both (of m x) (eqb (count (fits (Numbered m x.entry.sequence)) r.places) 0)

-- how many records of owner m the acts made leave, those of a settle not counted
unfoldable pub left_over : ℕ → Pool → List Act → ℕ → ℕ
left_over n p [] m = 0
left_over n p (Issue e ∷ xs) m = count (gone (act n p (Issue e)) m) p.places + left_over n (act n p (Issue e)) xs m
left_over n p (Settle l k ∷ xs) m = left_over n (act n p (Settle l k)) xs m
left_over n p (Mark l k ∷ xs) m = count (gone (act n p (Mark l k)) m) p.places + left_over n (act n p (Mark l k)) xs m
left_over n p (Unmark l ∷ xs) m = count (gone (act n p (Unmark l)) m) p.places + left_over n (act n p (Unmark l)) xs m

abbrev pub NoSettle : List Act → Type 0
NoSettle [] = Unit {0}
NoSettle (Issue e ∷ xs) = NoSettle xs
NoSettle (Settle l k ∷ xs) = ⊥
NoSettle (Mark l k ∷ xs) = NoSettle xs
NoSettle (Unmark l ∷ xs) = NoSettle xs

-- no settle follows an issue
abbrev pub SettlesFirst : List Act → Type 0
SettlesFirst [] = Unit {0}
SettlesFirst (Issue e ∷ xs) = NoSettle xs
SettlesFirst (Settle l k ∷ xs) = SettlesFirst xs
SettlesFirst (Mark l k ∷ xs) = SettlesFirst xs
SettlesFirst (Unmark l ∷ xs) = SettlesFirst xs
