-- `json_find::among` meets its contract.
-- Assumes nothing.
use Rattle.basis.proofs.Std.{◌≡◌, drop}
use Rattle.json_find.specs.Entries.{first_named}
use Rattle.json_find.specs.Index.{texts_at}
use Rattle.json_find.proofs.among.Given as goal

abbrev pub invariant-loop-at : goal.invariant-loop-at
invariant-loop-at l = first_named l.name (texts_at l.s l.places) ≡ first_named l.name (texts_at l.s (drop l.at-index l.places))
