-- `json_find::seek` meets its contract.
-- Assumes nothing.
use Rattle.basis.proofs.Std.{◌≤◌, ◌-◌, length, drop}
use Rattle.json_text.specs.declared.Read.{Read}
use Rattle.json_text.specs.Ends.{Ends}
use Rattle.json_find.specs.Entries.{entries, first_named}
use Rattle.json_find.proofs.seek.Given as goal

abbrev pub invariant-loop-at : goal.invariant-loop-at
invariant-loop-at l = (l.at ≤ l.i) × ((r : Read) → Ends l.s l.i (first_named l.name (entries 0x7d (drop l.i l.s))) r → Ends l.s l.at (first_named l.name (entries 0x7d (drop l.at l.s))) r)

abbrev pub decreases-loop-at : goal.decreases-loop-at
decreases-loop-at l = length l.s - l.i
