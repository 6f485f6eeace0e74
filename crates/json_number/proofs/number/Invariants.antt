-- `json_number::number` meets its contract.
-- Assumes nothing.
use Rattle.basis.proofs.Std.{drop}
use Rattle.json_text.specs.declared.Read.{Read}
use Rattle.json_text.specs.Ends.{Ends}
use Rattle.json_number.specs.Machine.{read_num, read_number}
use Rattle.json_number.proofs.number.Given as goal

abbrev pub invariant-loop-i : goal.invariant-loop-i
invariant-loop-i l = (r : Read) → Ends l.s l.i (read_num l.q (drop l.i l.s)) r → Ends l.s l.at (read_number (drop l.at l.s)) r
