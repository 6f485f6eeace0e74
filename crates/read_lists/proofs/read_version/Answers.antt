use Rattle.basis.proofs.Std.{◌∙◌}
use Rattle.read_lists.specs.Version.{version_at}
use Rattle.read_lists.proofs.read_version.Goals as goal

pub returns : goal.returns
unfolding version_at
returns c = c.offer_of.ensures ∙ rw (c.versions_of.ensures, c.sites_of.ensures, c.own_label.ensures)
