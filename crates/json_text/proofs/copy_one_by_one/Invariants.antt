-- `json_text::copy_one_by_one` meets its contract.
-- Assumes nothing.
use Rattle.basis.proofs.Std.{◌-◌, ◌≡◌, length, drop, replicate}
use Rattle.json_text.specs.Decoded.{decoded}
use Rattle.json_text.proofs.Copies.{fill_of}
use Rattle.json_text.proofs.copy_one_by_one.Given as goal

abbrev pub invariant-loop-x : goal.invariant-loop-x
invariant-loop-x l = fill_of l.most l.bytes l.k (decoded (drop l.i l.s)) ≡ fill_of l.most (replicate 36 0) 0 (decoded (drop l.at l.s))

abbrev pub decreases-loop-x : goal.decreases-loop-x
decreases-loop-x l = length l.s - l.i
