use Rattle.identity.proofs.digits.Goals as goal

pub returns : goal.returns
returns c = cc
