use Rattle.basis.proofs.Std.{ℕ, ◌<◌, ◌≡◌, [], get_or}
use Rattle.csv_field.specs.Places.{texts_of}
use Rattle.csv_entry.proofs.judge.agree.Given as goal

abbrev pub invariant-loop-j : goal.invariant-loop-j
invariant-loop-j l = (i : ℕ) → i < l.j → get_or (texts_of l.texts) i [] ≡ get_or (texts_of l.others) i []
