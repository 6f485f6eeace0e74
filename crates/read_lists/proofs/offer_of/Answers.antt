use Rattle.read_lists.proofs.offer_of.Goals as goal

pub returns : goal.returns
returns c = rw (c.worst-2.ensures, c.worst.ensures)
