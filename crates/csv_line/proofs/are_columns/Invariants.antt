use Rattle.basis.proofs.Std.{ℕ, ◌<◌, ◌≡◌, [], get_or}
use Rattle.csv_field.specs.Places.{texts_of}
use Rattle.csv_words.specs.Words.{columns}
use Rattle.csv_line.proofs.are_columns.Given as goal

abbrev pub invariant-loop-j : goal.invariant-loop-j
invariant-loop-j l = (i : ℕ) → i < l.j → get_or (texts_of l.texts) i [] ≡ get_or columns i []
