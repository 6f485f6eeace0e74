-- `json_sure::is_new` meets its contract.
-- Assumes nothing.
use Rattle.basis.proofs.Std.{◌≡◌, drop, both}
use Rattle.json_sure.specs.Sure.{is_new}
use Rattle.json_sure.proofs.is_new.Given as goal

abbrev pub invariant-loop-k : goal.invariant-loop-k
invariant-loop-k l = is_new l.m l.marks ≡ both l.new (is_new l.m (drop l.k-index l.marks))
