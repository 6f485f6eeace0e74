use Rattle.basis.proofs.Std.{◌∙◌}
use Rattle.read_versions.proofs.Searches.{has_is}
use Rattle.read_versions.proofs.Versions.has.Goals as goal

pub returns : goal.returns
returns c = rw (← c.known.ensures) (c.contains.ensures.value ∙ has_is c.args.n c.known.result.now)
