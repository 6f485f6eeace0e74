-- `json_value::entry`, `json_value::items`, `json_value::value`, which call one another with falling levels, meet their contracts.
-- Assumes nothing.
use Rattle.basis.proofs.Std.{◌≤◌, ◌-◌, ◌+◌, ◌*◌, length, drop}
use Rattle.json_text.specs.declared.Read.{Read}
use Rattle.json_text.specs.Ends.{Ends}
use Rattle.json_value.specs.Reader.{inside_of}
use Rattle.json_value.proofs.Nesting.{ItemsAt}
use Rattle.json_value.proofs.+entry_items_value.Given as goal

abbrev pub decreases-entry : goal.decreases-entry
decreases-entry l = 3 * l.levels + 3

abbrev pub decreases-items : goal.decreases-items
decreases-items l = 3 * l.levels + 1

abbrev pub decreases-value : goal.decreases-value
decreases-value l = 3 * l.levels + 2

abbrev pub invariant-items-loop-n : goal.invariant-items-loop-n
invariant-items-loop-n l = (l.i ≤ length l.s) × ((r : Read) → ItemsAt l.s l.close (l.levels - 1) l.i r → Ends l.s l.at (inside_of l.close l.levels (drop l.at l.s)) r)

abbrev pub decreases-items-loop-n : goal.decreases-items-loop-n
decreases-items-loop-n l = length l.s - l.i
