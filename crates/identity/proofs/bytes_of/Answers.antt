use Rattle.identity.specs.Read.{bytes_of}
use Rattle.identity.proofs.bytes_of.Goals as goal

pub returns : goal.returns
unfolding bytes_of
returns c = cc
