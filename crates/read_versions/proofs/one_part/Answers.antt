use Rattle.read_versions.proofs.Dots.{one_more, one_end}
use Rattle.read_versions.proofs.one_part.Goals as goal

pub returns-then-e-s : goal.returns-then-e-s
returns-then-e-s c = one_more _ _ c.dot-e.ensures c.if-e-s.true

pub returns : goal.returns
returns c = one_end _ _ c.dot-e.ensures c.if-e-s.false _ c.numeral.ensures
