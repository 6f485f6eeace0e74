-- `json_sure::mark` meets its contract.
-- Assumes nothing.
use Rattle.basis.proofs.Std.{◌<◌, ◌-◌, ◌≡◌, length, drop}
use Rattle.json_text.specs.Decoded.{decoded}
use Rattle.json_sure.specs.Sure.{mark_read}
use Rattle.json_sure.proofs.mark.Given as goal

abbrev pub invariant-loop-b : goal.invariant-loop-b
invariant-loop-b l = (l.h < 4294967296) × (mark_read l.key 1 (decoded (drop l.at l.s)) ≡ mark_read l.key l.h (decoded (drop l.i l.s)))

abbrev pub decreases-loop-b : goal.decreases-loop-b
decreases-loop-b l = length l.s - l.i
