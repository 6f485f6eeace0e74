use Rattle.read_lists.proofs.status_of.Goals as goal

pub returns : goal.returns
returns c = rw c.worst.ensures
