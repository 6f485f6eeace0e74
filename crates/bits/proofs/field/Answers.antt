use Rattle.bits.proofs.field.Goals as goal

pub returns : goal.returns
returns c = cc
