-- `packet_greet::own` meets its contract.
-- Assumes nothing.
use Rattle.basis.proofs.Std.{refl}
use Rattle.packet_greet.proofs.own.Goals as goal

pub returns : goal.returns
returns c = rw (c.sxl-sxl.ensures, c.sites-sites.ensures, c.site_id.ensures, c.versions-versions.ensures) refl
