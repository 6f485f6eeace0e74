-- `store_site::phases::down` meets its contract.
-- Assumes nothing.
use Rattle.basis.proofs.Std.{ap, ◌∙◌}
use Rattle.site.specs.Site.{is_down}
use Rattle.store_site.proofs.phases.down.Goals as goal

pub returns : goal.returns
returns c = λ ps t. c.is_down.ensures ∙ ap is_down (c.phase.ensures ps t)
