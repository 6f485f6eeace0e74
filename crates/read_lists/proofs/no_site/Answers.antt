use Rattle.read_lists.proofs.no_site.Goals as goal

pub returns : goal.returns
returns c = rw c.none.ensures
