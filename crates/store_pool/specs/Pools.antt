-- What a change of the pool in place leaves of its parts, and the records counted by owner.
-- Assumes nothing.
use Rattle.std.specs.Prelude.{ℕ, ◌+◌, ◌<◌, ◌≡◌, List}
use Rattle.basis.specs.Pick.{bit}
use Rattle.pool.specs.declared.Loser.{Loser}
use Rattle.pool.specs.declared.Place.{Place}
use Rattle.pool.specs.Places.{of}
use Rattle.pool.specs.Pool.{held_in, loss_of}
use Rattle.store_words.specs.Words.{word, Stored}
use Rattle.store_site.specs.Layout.{lost_in}

pub record Loss (ps qs : List ℕ) (who : Loser) : Type 0 where
  pub counts : lost_in qs ≡ loss_of (lost_in ps) who
  pub kept : Stored ps qs 0 8

-- the counts after one more place, where x stands
abbrev pub Counts : Place → List ℕ → List ℕ → Type 0
Counts x ns ms = (o : ℕ) → o < 8 → word ms o ≡ bit (of o x) + word ns o

-- the counts of all places
abbrev pub Counted : List Place → List ℕ → Type 0
Counted p ns = (o : ℕ) → o < 8 → word ns o ≡ held_in p o
