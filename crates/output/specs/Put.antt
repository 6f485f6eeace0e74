-- What a writer leaves in a lent output: pieces put behind its present end, and nothing else touched.
-- Assumes nothing.
use Rattle.std.specs.Prelude.{◌≡◌, List, [], ◌∷◌, ◌++◌, ℕ, ◌+◌, length, take, drop, leb}
use Rattle.basis.specs.Pick.{pick}

-- an output and its present end; an end past the output says that something found no room
pub record Out : Type 0 where
  pub bytes : List ℕ
  pub end : ℕ

abbrev pub output : List ℕ → ℕ → Out
output xs at = record { bytes = xs; end = at }

-- xs with bs from index at on; all else as it was
unfoldable pub put : List ℕ → ℕ → List ℕ → List ℕ
put xs at bs = take at xs ++ bs ++ drop (at + length bs) xs

-- a piece goes behind the present end where it fits; else nothing changes, and the end is past the output, where nothing fits any more
unfoldable pub put_piece : Out → List ℕ → Out
put_piece o bs =
    pick (leb (o.end + length bs) (length o.bytes))
    (output (put o.bytes o.end bs) (o.end + length bs))
    (output o.bytes (length o.bytes + 1))

-- pieces, each behind the one before
abbrev pub put_all : Out → List (List ℕ) → Out
put_all o [] = o
put_all o (b ∷ bs) = put_all (put_piece o b) bs

-- a writer that was lent xs with the present end `at` put these pieces: it leaves ys and answers the end r
pub record Wrote (xs : List ℕ) (at : ℕ) (pieces : List (List ℕ)) (ys : List ℕ) (r : ℕ) : Type 0 where
  pub all : output ys r ≡ put_all (output xs at) pieces

-- all of the pieces' bytes, in order
abbrev pub concat : List (List ℕ) → List ℕ
concat [] = []
concat (b ∷ bs) = b ++ concat bs
