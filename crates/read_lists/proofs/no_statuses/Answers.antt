use Rattle.read_lists.proofs.no_statuses.Goals as goal

pub returns : goal.returns
returns c = rw c.no_entry.ensures
