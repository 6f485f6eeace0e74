use Rattle.write_message.specs.Pieces.{by_kind}
use Rattle.basis.proofs.Std.{rules}
use Rattle.write_report.proofs.kinds.put_by.Goals as goal

pub returns-in-Response : goal.returns-in-Response
unfolding by_kind
returns-in-Response c = rw c.in-Response.is c.put_bytes.ensures

pub returns-in-Update : goal.returns-in-Update
unfolding by_kind
returns-in-Update c = rw c.in-Update.is c.put_bytes-in-Update.ensures

pub returns-in-Command : goal.returns-in-Command
unfolding by_kind
returns-in-Command c = rw c.in-Command.is c.put_bytes-in-Command.ensures
