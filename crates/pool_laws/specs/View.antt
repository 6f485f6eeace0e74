-- The view of the pool: each owner's records, oldest first, each with its mark (1 not sent, 2 sent). No place's index appears here,
-- and what every act does to the view and to the lost counts is a function of the view alone.
-- Assumes nothing.
use Rattle.std.specs.Prelude.{ℕ, zero, suc, ◌+◌, ◌-◌, List, [], ◌∷◌, ◌++◌, Bool, leb, eqb, length, drop}
use Rattle.basis.specs.Pick.{pick, both, bit}
use Rattle.entry.specs.declared.Entry.{Entry}
use Rattle.pool.specs.declared.Place.{Place}
use Rattle.pool.specs.declared.Pool.{Pool}
use Rattle.pool.specs.declared.Loser.{Loser}
use Rattle.pool.specs.declared.Loser.TheVariants.{Nobody, Owner}
use Rattle.pool.specs.declared.Sought.{Sought}
use Rattle.pool.specs.declared.Sought.TheVariants.{Found, Nothing}
use Rattle.pool.specs.Places.{of}
use Rattle.pool.specs.Shares.{loser}
use Rattle.pool.specs.Pool.{made}

-- a record goes before the first whose number is not lower
unfoldable pub insert : Place → List Place → List Place
insert x [] = x ∷ []
insert x (y ∷ l) = pick (leb x.entry.sequence y.entry.sequence) (x ∷ y ∷ l) (y ∷ insert x l)

abbrev pub insert_if : Bool → Place → List Place → List Place
insert_if t x l = pick t (insert x l) l

unfoldable pub records_in : List Place → ℕ → List Place
records_in [] l = []
records_in (x ∷ p) l = insert_if (of l x) x (records_in p l)

-- the records of owner l, oldest first
abbrev pub records : Pool → ℕ → List Place
records p l = records_in p.places l

-- the sum over the owners below n
unfoldable pub total : (ℕ → ℕ) → ℕ → ℕ
total held zero = 0
total held (suc k) = total held k + held k

-- ---- what the acts do, on views v
abbrev pub holds : (ℕ → List Place) → ℕ → ℕ
holds v l = length (v l)

abbrev pub loser_in : ℕ → (ℕ → List Place) → ℕ → Loser
loser_in n v l = loser n (holds v) (128 - total (holds v) n) l

abbrev pub shed : Loser → ℕ → List Place → List Place
shed Nobody m l = l
shed (Owner w) m l = pick (eqb w m) (drop 1 l) l

-- m's records after an issue: without the oldest where m loses it, and the new one last where it is m's
abbrev pub issue_view : ℕ → (ℕ → List Place) → Entry → ℕ → List Place
issue_view n v e m = shed (loser_in n v e.link) m (v m) ++ pick (eqb e.link m) (made e ∷ []) []

-- how many records m loses
abbrev pub losses : Loser → ℕ → ℕ
losses Nobody m = 0
losses (Owner w) m = bit (eqb w m)

-- without the record numbered k
unfoldable pub without : ℕ → List Place → List Place
without k [] = []
without k (x ∷ l) = pick (eqb x.entry.sequence k) (without k l) (x ∷ without k l)

-- the record numbered k is sent
abbrev pub sent_if : ℕ → Place → Place
sent_if k x = pick (eqb x.entry.sequence k) (record { entry = x.entry; mark = 2 }) x

abbrev pub unsent : Place → Place
unsent x = record { entry = x.entry; mark = 1 }

-- ---- what is read, on one owner's records
unfoldable pub first_where : (Place → Bool) → List Place → Sought
first_where f [] = Nothing
first_where f (x ∷ l) = pick (f x) (Found x) (first_where f l)

abbrev pub or_else : Sought → Sought → Sought
or_else (Found y) d = Found y
or_else Nothing d = d

unfoldable pub last_where : (Place → Bool) → List Place → Sought
last_where f [] = Nothing
last_where f (x ∷ l) = or_else (last_where f l) (pick (f x) (Found x) Nothing)

unfoldable pub nth : ℕ → List Place → Sought
nth r [] = Nothing
nth zero (x ∷ l) = Found x
nth (suc r) (x ∷ l) = nth r l

abbrev pub not_sent : Place → Bool
not_sent x = eqb x.mark 1

abbrev pub of_alarm : ℕ → Place → Bool
of_alarm k x = both (eqb x.entry.kind 0) (eqb x.entry.item k)
