-- `json_text::same` meets its contract.
-- Assumes nothing.
use Rattle.basis.proofs.Std.{◌-◌, ◌≡◌, length, drop}
use Rattle.json_text.specs.Decoded.{decoded, same_text}
use Rattle.json_text.proofs.same.Given as goal

abbrev pub invariant-loop-x : goal.invariant-loop-x
invariant-loop-x l = (same_text (decoded (drop l.i l.s)) (decoded (drop l.j l.s)) ≡ same_text (decoded (drop l.p l.s)) (decoded (drop l.q l.s)))

abbrev pub decreases-loop-x : goal.decreases-loop-x
decreases-loop-x l = length l.s - l.i
