-- `store_site::head::site` meets its contract.
-- Assumes nothing.
use Rattle.store_site.specs.Layout.{site_of}
use Rattle.store_site.proofs.head.site.Goals as goal

pub returns : goal.returns
unfolding site_of
returns c = λ ps t. c.top.ensures
