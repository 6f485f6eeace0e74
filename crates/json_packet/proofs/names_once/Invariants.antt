-- `json_packet::names_once` meets its contract.
-- Assumes nothing.
use Rattle.basis.proofs.Std.{◌-◌, length, drop, ◌≡◌}
use Rattle.json_packet.specs.Scan.{scan}
use Rattle.json_packet.proofs.names_once.Given as goal

abbrev pub invariant-loop-i : goal.invariant-loop-i
invariant-loop-i l = scan l.s ≡ scan (drop l.i l.s)

abbrev pub decreases-loop-i : goal.decreases-loop-i
decreases-loop-i l = length l.s - l.i
