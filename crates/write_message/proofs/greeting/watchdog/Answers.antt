use Rattle.write_message.specs.Pieces.{pieces}
use Rattle.output.proofs.Laws.{then}
use Rattle.basis.proofs.Std.{rules}
use Rattle.write_message.proofs.greeting.watchdog.Goals as goal

pub returns : goal.returns
unfolding pieces
returns c = then (then c.own_head-end.ensures c.moment_behind-end.ensures) c.put_bytes.ensures
