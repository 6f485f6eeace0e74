-- `store_site::parts::next` meets its contract.
-- Assumes nothing.
use Rattle.basis.proofs.Std.{refl}
use Rattle.store_site.specs.Layout.{site_of}
use Rattle.store_site.proofs.parts.next.Goals as goal

pub returns : goal.returns
unfolding site_of
returns c = λ ps t. refl
