use Rattle.basis.proofs.Std.{refl}
use Rattle.json_text.specs.Copied.{no_copy}
use Rattle.read_head.proofs.no_copy.Goals as goal

pub returns : goal.returns
unfolding no_copy
returns c = refl
