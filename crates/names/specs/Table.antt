-- Where the names stand in the table of bytes.
-- Assumes nothing.
use Rattle.std.specs.Prelude.{List, [], ◌∷◌, map, ◌≡◌, ℕ, ◌+◌, ◌-◌, ◌≤◌, length, take, drop}
use Rattle.output.specs.Put.{concat}
use Rattle.names.specs.Names.{names, name_of}

-- all names, one after the other
abbrev pub table : List ℕ
table = concat names

-- where each name starts, the first at n
abbrev starts_from : ℕ → List (List ℕ) → List ℕ
starts_from n [] = []
starts_from n (b ∷ bs) = n ∷ starts_from (n + length b) bs

abbrev pub starts : List ℕ
starts = starts_from 0 names

abbrev pub lens : List ℕ
lens = map length names

-- a table of bytes, its starts and its lengths, as lent
pub record Lent (bytes firsts lengths : List ℕ) : Type 0 where
  pub bytes_are : bytes ≡ table
  pub firsts_are : firsts ≡ starts
  pub lengths_are : lengths ≡ lens

-- name i stands in the table from a to e
pub record Spans (i a e : ℕ) : Type 0 where
  pub ordered : a ≤ e
  pub within : e ≤ length table
  pub named : take (e - a) (drop a table) ≡ name_of i
