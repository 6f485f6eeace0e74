-- `store_link::slots::awaited_at` meets its contract.
-- Assumes nothing.
use Rattle.basis.proofs.Std.{ℕ, ◌<◌, ◌+◌, ◌*◌, ◌≡◌, length, get_or}
use Rattle.awaited.specs.Slot.{free_slot}
use Rattle.store_link.specs.Rows.{slot_in}
use Rattle.store_link.proofs.slots.awaited_at.Given as goal

abbrev pub invariant-loop-k : goal.invariant-loop-k
invariant-loop-k l = ((length l.slots ≡ 16) × ((j : ℕ) → j < l.k → get_or l.slots j free_slot ≡ slot_in l.w (l.i + 4 * j)))
