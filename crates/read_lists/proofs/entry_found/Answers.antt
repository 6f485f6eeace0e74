-- `read_lists::entry_found` meets its contract.
-- Assumes nothing.
use Rattle.basis.proofs.Std.{sym, ◌∙◌}
use Rattle.read_lists.proofs.entry_found.Goals as goal

pub returns-in-Plain : goal.returns-in-Plain
returns-in-Plain c = c.plain_entry.ensures ∙ sym (rw c.in-Plain.is)

pub returns-in-Full : goal.returns-in-Full
returns-in-Full c = c.full_entry.ensures ∙ sym (rw c.in-Full.is)

pub returns-in-Older : goal.returns-in-Older
returns-in-Older c = c.older_entry.ensures ∙ sym (rw c.in-Older.is)
