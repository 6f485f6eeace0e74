use Rattle.basis.proofs.Std.{same_is, rules}
use Rattle.read_head.proofs.is_word.Goals as goal

pub returns : goal.returns
returns c = same_is c.args.d.now c.args.fixed.now c.same.result c.same.ensures.0 c.same.ensures.1
