-- `store_link::slots::ids_at` meets its contract.
-- Assumes nothing.
use Rattle.basis.proofs.Std.{◌≡◌, length}
use Rattle.store_link.specs.Rows.{IdsIn}
use Rattle.store_link.proofs.slots.ids_at.Given as goal

abbrev pub invariant-loop-k : goal.invariant-loop-k
invariant-loop-k l = (length l.b ≡ 256) × IdsIn l.w l.i l.b l.k
