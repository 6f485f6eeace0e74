use Rattle.basis.proofs.Std.{◌≡◌, length, drop, map}
use Rattle.csv_field.specs.Places.{texts_of}
use Rattle.csv_entry.specs.Judged.{present, present_from}
use Rattle.csv_entry.proofs.judge.is_present.Given as goal

abbrev pub invariant-loop-j : goal.invariant-loop-j
invariant-loop-j l = present l.k (texts_of l.texts) ≡ present_from l.k l.j (map length (drop l.j (texts_of l.texts)))
