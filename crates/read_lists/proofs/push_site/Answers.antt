use Rattle.basis.proofs.Std.{sym, lt-ltb, le-ltb}
use Rattle.read_lists.specs.Version.{push_site}
use Rattle.read_lists.proofs.push_site.Goals as goal

pub returns-then-n-lt16 : goal.returns-then-n-lt16
unfolding push_site
returns-then-n-lt16 c = rw (c.put_label-list.ensures, c.worst-x.ensures) (sym (rw (lt-ltb c.args.l.sites.count 16 c.if-n-lt16.true)))

pub returns : goal.returns
unfolding push_site
returns c = rw (c.worst.ensures, c.worst-x.ensures) (sym (rw (le-ltb c.args.l.sites.count 16 c.if-n-lt16.false)))
