-- `store_site::head::period` meets its contract.
-- Assumes nothing.
use Rattle.store_site.specs.Layout.{site_of}
use Rattle.store_site.proofs.head.period.Goals as goal

pub returns : goal.returns
unfolding site_of
returns c = λ ps t. c.below_top.ensures
