-- The pool's acts and what is read from it. For n owners; the code has eight, four links of either site.
-- An owner outside the n issues nothing and none of its records is held.
-- Assumes nothing.
use Rattle.std.specs.Prelude.{ℕ, ◌+◌, List, map, Bool, true, false, ltb, eqb, get_or, set, replicate}
use Rattle.basis.specs.Pick.{pick, both}
use Rattle.entry.specs.declared.Entry.{Entry}
use Rattle.entry.specs.Layout.{bytes_of}
use Rattle.pool.specs.declared.Place.{Place}
use Rattle.pool.specs.declared.Pool.{Pool}
use Rattle.pool.specs.declared.Wanted.TheVariants.{Free, Unsent, Older, Numbered, Alarm}
use Rattle.pool.specs.declared.Spot.{Spot}
use Rattle.pool.specs.declared.Spot.TheVariants.{At, Nowhere}
use Rattle.pool.specs.declared.Loser.{Loser}
use Rattle.pool.specs.declared.Loser.TheVariants.{Nobody, Owner}
use Rattle.pool.specs.declared.Sought.{Sought}
use Rattle.pool.specs.declared.Sought.TheVariants.{Found, Nothing}
use Rattle.pool.specs.declared.Reading.{Reading}
use Rattle.basis.specs.Lists.{count}
use Rattle.pool.specs.Places.{no_place, of, fits, oldest, newest, sought_at}
use Rattle.pool.specs.Shares.{loser}

-- 128 free places; n owners have lost nothing
unfoldable pub empty_of : ℕ → Pool
empty_of n = record { places = replicate 128 no_place; lost = replicate n 0 }

-- how many records of owner l are held
abbrev pub held_in : List Place → ℕ → ℕ
held_in p l = count (of l) p

abbrev pub free_in : List Place → ℕ
free_in p = count (fits Free) p

abbrev pub held_of : Pool → ℕ → ℕ
held_of p l = held_in p.places l

abbrev pub lost_of : Pool → ℕ → ℕ
lost_of p l = get_or p.lost l 0

-- one more; a count that cannot grow stays
abbrev pub more_of : ℕ → ℕ
more_of k = pick (ltb k 18446744073709551615) (k + 1) k

unfoldable pub loss_of : List ℕ → Loser → List ℕ
loss_of lost Nobody = lost
loss_of lost (Owner m) = set lost m (more_of (get_or lost m 0))

-- the place that a new record takes: its loser's oldest, or a free one
unfoldable pub room_of : List Place → Loser → Spot
room_of p Nobody = oldest (fits Free) p
room_of p (Owner m) = oldest (of m) p

abbrev pub made : Entry → Place
made e = record { entry = e; mark = 1 }

-- a pool with another place at a spot, and other lost counts; where there is no spot nothing changes
unfoldable pub with_of : Pool → Spot → Place → List ℕ → Pool
with_of p (At i y) x lost = record { places = set p.places i x; lost = lost }
with_of p Nowhere x lost = p

abbrev pub issue_from : Pool → Loser → Entry → Pool
issue_from p who e = with_of p (room_of p.places who) (made e) (loss_of p.lost who)

-- a record is issued for its owner
unfoldable pub issue_of : ℕ → Pool → Entry → Pool
issue_of n p e = pick (ltb e.link n) (issue_from p (loser n (held_in p.places) (free_in p.places) e.link) e) p

abbrev pub numbered : Pool → ℕ → ℕ → Spot
numbered p l q = oldest (fits (Numbered l q)) p.places

abbrev pub sent : Spot → Place
sent (At i x) = record { entry = x.entry; mark = 2 }
sent Nowhere = no_place

-- a record is marked as sent: that of owner l numbered q; where it is not held, nothing changes
unfoldable pub mark_of : Pool → ℕ → ℕ → Pool
mark_of p l q = with_of p (numbered p l q) (sent (numbered p l q)) p.lost

-- a record is settled and its place free: that of owner l numbered q; where it is not held, nothing changes
unfoldable pub settle_of : Pool → ℕ → ℕ → Pool
settle_of p l q = with_of p (numbered p l q) no_place p.lost

-- no record of owner l is marked as sent
abbrev pub unsent_for : ℕ → Place → Place
unsent_for l x = pick (of l x) (record { entry = x.entry; mark = 1 }) x

unfoldable pub unmark_of : Pool → ℕ → Pool
unmark_of p l = record { places = map (unsent_for l) p.places; lost = p.lost }

-- owner l begins anew: it holds nothing and has lost nothing
abbrev pub freed_for : ℕ → Place → Place
freed_for l x = pick (of l x) no_place x

unfoldable pub clear_of : Pool → ℕ → Pool
clear_of p l = record { places = map (freed_for l) p.places; lost = set p.lost l 0 }

-- the oldest record of owner l that is not sent
abbrev pub oldest_unsent : Pool → ℕ → Sought
oldest_unsent p l = sought_at (oldest (fits (Unsent l)) p.places)

-- the newest record of owner l of the alarm k
abbrev pub newest_alarm : Pool → ℕ → ℕ → Sought
newest_alarm p l k = sought_at (newest (fits (Alarm l k)) p.places)

-- the record of owner l than which r records of l are older
abbrev pub rank_is : List Place → ℕ → ℕ → Place → Bool
rank_is p l r x = both (of l x) (eqb (count (fits (Older l x.entry.sequence)) p) r)

abbrev pub ranked_of : Pool → ℕ → ℕ → Sought
ranked_of p l r = sought_at (oldest (rank_is p.places l r) p.places)

-- a record's sixteen bytes, as a reading hands them out
abbrev pub reading_of : Sought → Reading
reading_of (Found x) = record { found = true; bytes = bytes_of x.entry }
reading_of Nothing = record { found = false; bytes = replicate 16 0 }
