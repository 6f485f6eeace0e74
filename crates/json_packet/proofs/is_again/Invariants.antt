-- `json_packet::is_again` meets its contract.
-- Assumes nothing.
use Rattle.basis.proofs.Std.{◌+◌, ◌-◌, length, drop, ◌≡◌}
use Rattle.json_text.specs.Decoded.{decoded}
use Rattle.json_find.specs.Entries.{entries}
use Rattle.json_packet.specs.Scan.{any_same, later, again}
use Rattle.json_packet.proofs.is_again.Given as goal

abbrev pub invariant-loop-e : goal.invariant-loop-e
invariant-loop-e l = again (drop (l.at + 1) l.s) (drop l.at l.s) ≡ any_same (decoded (drop (l.at + 1) l.s)) (later (entries 0x7d (drop l.i l.s)))

abbrev pub decreases-loop-e : goal.decreases-loop-e
decreases-loop-e l = length l.s - l.i
