-- `read_lists::plain_entry` meets its contract.
-- Assumes nothing.
use Rattle.basis.proofs.Std.{◌∙◌}
use Rattle.read_lists.proofs.plain_entry.Goals as goal

pub returns : goal.returns
returns c = c.entry_of.ensures ∙ rw (c.label_at-c.ensures, c.label_at-n.ensures)
