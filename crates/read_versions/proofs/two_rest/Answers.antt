use Rattle.read_versions.proofs.Dots.{rest_none, after_dot}
use Rattle.read_versions.specs.Version.{two_parts}
use Rattle.read_versions.proofs.two_rest.Goals as goal

pub returns-then-s-e : goal.returns-then-s-e
returns-then-s-e c = rest_none _ _ c.requires two_parts c.if-s-e.true

pub returns : goal.returns
returns c = after_dot _ _ c.requires two_parts c.if-s-e.false _ c.two_parts.ensures
