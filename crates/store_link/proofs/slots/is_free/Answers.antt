-- `store_link::slots::is_free` meets its contract.
-- Assumes nothing.
use Rattle.basis.proofs.Std.{ℕ, ap, eqb}
use Rattle.store_link.specs.Rows.{slot_from}
use Rattle.store_link.proofs.slots.is_free.Goals as goal

pub returns : goal.returns
unfolding slot_from
returns c = ap (λ (n : ℕ). eqb n 0) c.lower.ensures
