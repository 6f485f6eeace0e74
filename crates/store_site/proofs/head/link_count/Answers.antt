-- `store_site::head::link_count` meets its contract.
-- Assumes nothing.
use Rattle.store_site.specs.Layout.{site_of}
use Rattle.store_site.proofs.head.link_count.Goals as goal

pub returns : goal.returns
unfolding site_of
returns c = λ ps t. c.quarter.ensures
