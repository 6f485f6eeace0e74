-- `json_text::is_name` meets its contract.
-- Assumes nothing.
use Rattle.basis.proofs.Std.{◌≡◌, drop}
use Rattle.json_text.specs.Decoded.{decoded, is_text}
use Rattle.json_text.proofs.is_name.Given as goal

abbrev pub invariant-loop-b : goal.invariant-loop-b
invariant-loop-b l = is_text (decoded (drop l.i l.s)) (drop l.b-index l.name) ≡ is_text (decoded (drop l.at l.s)) l.name
