use Rattle.basis.proofs.Std.{sym, lt-ltb, le-ltb}
use Rattle.read_lists.specs.Version.{push_version}
use Rattle.read_lists.proofs.push_version.Goals as goal

pub returns-then-n-lt16 : goal.returns-then-n-lt16
unfolding push_version
returns-then-n-lt16 c = rw c.worst-x.ensures (sym (rw (lt-ltb c.args.l.versions.count 16 c.if-n-lt16.true)))

pub returns : goal.returns
unfolding push_version
returns c = rw (c.worst.ensures, c.worst-x.ensures) (sym (rw (le-ltb c.args.l.versions.count 16 c.if-n-lt16.false)))
