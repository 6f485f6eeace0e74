-- `store_site::head::aggregated` meets its contract.
-- Assumes nothing.
use Rattle.store_site.specs.Layout.{site_of}
use Rattle.basis.proofs.Std.{refl}
use Rattle.store_site.proofs.head.aggregated.Goals as goal

pub returns : goal.returns
unfolding site_of
returns c = λ ps t. refl
