use Rattle.read_lists.proofs.entry_of.Goals as goal

pub returns : goal.returns
returns c = rw (c.is_set.ensures, c.worst-verdict.ensures, c.worst-2.ensures, c.changed.ensures, c.worst.ensures)
