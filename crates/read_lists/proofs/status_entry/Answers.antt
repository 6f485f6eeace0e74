-- `read_lists::status_entry` meets its contract.
-- Assumes nothing.
use Rattle.basis.proofs.Std.{sym, ◌∙◌}
use Rattle.read_lists.proofs.Once.{object_steps, other_steps}
use Rattle.read_lists.proofs.status_entry.Goals as goal

pub returns-then-begins : goal.returns-then-begins
returns-then-begins c = object_steps _ _ _ _ c.space-k.ensures _ _ (sym c.if-begins.true ∙ c.begins.ensures) _ c.four-f.ensures c.entry_found.ensures c.step_from.ensures

pub returns : goal.returns
returns c = other_steps _ _ _ _ c.space-k.ensures _ _ (sym c.if-begins.false ∙ c.begins.ensures) (rw c.no_entry.ensures) c.step.ensures
