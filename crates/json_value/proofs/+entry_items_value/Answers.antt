-- `json_value::items` meets its contract.
-- Assumes nothing.
use Rattle.json_value.proofs.Nesting.{items_neither}
use Rattle.json_value.proofs.+entry_items_value.Goals as goal

pub items-returns-in-Neither : goal.items-returns-in-Neither
items-returns-in-Neither t c = c.loop-n.invariant.1 _ (items_neither _ _ _ _ (rw c.in-Neither.is at c.entry.ensures))
