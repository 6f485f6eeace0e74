-- The pool as a machine of four acts, and what is asked of the sequence numbers: that each owner's rise, and fit 31 bits.
-- Assumes nothing.
use Rattle.std.specs.Prelude.{ℕ, ◌+◌, ◌≤◌, ◌<◌, List, [], ◌∷◌, Bool, ltb, eqb}
use Rattle.basis.specs.Pick.{pick, both}
use Rattle.entry.specs.declared.Entry.{Entry}
use Rattle.pool.specs.declared.Place.{Place}
use Rattle.pool.specs.declared.Pool.{Pool}
use Rattle.pool.specs.Places.{of}
use Rattle.pool.specs.Pool.{issue_of, settle_of, mark_of, unmark_of}

pub data Act : Type 0 where
  Issue : Entry → Act
  Settle : ℕ → ℕ → Act
  Mark : ℕ → ℕ → Act
  Unmark : ℕ → Act

-- the pool of n owners after an act
abbrev pub act : ℕ → Pool → Act → Pool
act n p (Issue e) = issue_of n p e
act n p (Settle l q) = settle_of p l q
act n p (Mark l q) = mark_of p l q
act n p (Unmark l) = unmark_of p l

-- after a list of acts, the first first
abbrev pub acts : ℕ → Pool → List Act → Pool
acts n p [] = p
acts n p (a ∷ xs) = acts n (act n p a) xs

-- the act may be done where q says each owner's next number: a record is issued for one of the n owners, under its next or a later number
abbrev pub May : ℕ → (ℕ → ℕ) → Act → Type 0
May n q (Issue e) = (e.link < n) × ((q e.link ≤ e.sequence) × (e.sequence < 2147483648))
May n q (Settle l k) = Unit {0}
May n q (Mark l k) = Unit {0}
May n q (Unmark l) = Unit {0}

-- another next number for owner o
abbrev pub renewed : (ℕ → ℕ) → ℕ → ℕ → ℕ → ℕ
renewed q o k l = pick (eqb o l) k (q l)

-- the next numbers after the act, after the acts
abbrev pub next : (ℕ → ℕ) → Act → ℕ → ℕ
next q (Issue e) = renewed q e.link (e.sequence + 1)
next q (Settle l k) = q
next q (Mark l k) = q
next q (Unmark l) = q

abbrev pub nexts : (ℕ → ℕ) → List Act → ℕ → ℕ
nexts q [] = q
nexts q (a ∷ xs) = nexts (next q a) xs

-- the numbers that the acts pass rise from q
pub data Rising (n : ℕ) : (ℕ → ℕ) → List Act → Type 0 where
  none : {q : ℕ → ℕ} → Rising n q []
  then : {q : ℕ → ℕ} {a : Act} {xs : List Act} → May n q a → Rising n (next q a) xs → Rising n q (a ∷ xs)

-- it holds a record of owner l that is newer than the number q
abbrev pub newer_than : ℕ → ℕ → Place → Bool
newer_than l q x = both (of l x) (ltb q x.entry.sequence)
