use Rattle.basis.proofs.Std.{sym, lt-ltb, le-ltb}
use Rattle.csv_field.specs.Places.{noted}
use Rattle.csv_field.proofs.note.Goals as goal

pub returns-then-n-lt-MOST : goal.returns-then-n-lt-MOST
unfolding noted
returns-then-n-lt-MOST c = sym (rw (lt-ltb c.args.n.now.count 12 c.if-n-lt-MOST.true))

pub returns-else-n-lt-MOST : goal.returns-else-n-lt-MOST
unfolding noted
returns-else-n-lt-MOST c = sym (rw (le-ltb c.args.n.now.count 12 c.if-n-lt-MOST.false))
