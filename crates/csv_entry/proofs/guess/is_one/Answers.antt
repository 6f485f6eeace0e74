use Rattle.basis.proofs.Std.{same_is}
use Rattle.csv_entry.proofs.guess.is_one.Goals as goal

pub returns : goal.returns
returns c = same_is c.args.f.now _ c.same.result c.same.ensures.0 c.same.ensures.1
