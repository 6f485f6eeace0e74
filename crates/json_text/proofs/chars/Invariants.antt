-- `json_text::chars` meets its contract.
-- Assumes nothing.
use Rattle.basis.proofs.Std.{◌≤◌, ◌-◌, length, drop}
use Rattle.json_text.specs.declared.Read.{Read}
use Rattle.json_text.specs.Ends.{Ends}
use Rattle.json_text.specs.Decoded.{decoded}
use Rattle.json_text.proofs.chars.Given as goal

abbrev pub invariant-loop-at : goal.invariant-loop-at
invariant-loop-at l = (l.at ≤ l.i) × ((r : Read) → Ends l.s l.i (decoded (drop l.i l.s)) r → Ends l.s l.at (decoded (drop l.at l.s)) r)

abbrev pub decreases-loop-at : goal.decreases-loop-at
decreases-loop-at l = length l.s - l.i
