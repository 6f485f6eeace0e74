-- `read_lists::full_entry` meets its contract.
-- Assumes nothing.
use Rattle.basis.proofs.Std.{◌∙◌}
use Rattle.read_lists.proofs.full_entry.Goals as goal

pub returns : goal.returns
returns c = c.entry_of.ensures ∙ rw (c.label_at-c.ensures, c.label_at-n.ensures, c.seconds_at-u.ensures, c.flag_at.ensures)
