use Rattle.basis.proofs.Std.{sym, le-leb, lt-leb}
use Rattle.weekc.proofs.room.Goals as goal

pub returns-then-written-length : goal.returns-then-written-length
returns-then-written-length c = sym (rw (le-leb c.args.written c.args.length c.if-written-length.true))

pub returns-else-written-length : goal.returns-else-written-length
returns-else-written-length c = sym (rw (lt-leb c.args.written c.args.length c.if-written-length.false))
