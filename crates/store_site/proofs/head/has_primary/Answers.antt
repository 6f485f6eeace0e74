-- `store_site::head::has_primary` meets its contract.
-- Assumes nothing.
use Rattle.store_site.specs.Layout.{site_of}
use Rattle.store_site.proofs.head.has_primary.Goals as goal

pub returns : goal.returns
unfolding site_of
returns c = λ ps t. rw (← c.quarter-count.ensures, ← c.quarter-first.ensures)
