use Rattle.read_lists.proofs.no_entry.Goals as goal

pub returns : goal.returns
returns c = rw (c.none-2.ensures, c.none.ensures)
