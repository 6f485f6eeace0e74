use Rattle.read_versions.proofs.Numerals.{numeral_once}
use Rattle.read_versions.proofs.numeral.Goals as goal

pub returns : goal.returns
returns c = numeral_once _ _ _ c.read_decimal.ensures
