use Rattle.basis.proofs.Std.{rules}
use Rattle.write_member.proofs.choice.Goals as goal

pub returns-then-test : goal.returns-then-test
returns-then-test c = rw c.if-test.true c.put_bytes.ensures

pub returns-else-test : goal.returns-else-test
returns-else-test c = rw c.if-test.false c.put_bytes-else-test.ensures
