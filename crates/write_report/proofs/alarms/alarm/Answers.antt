use Rattle.write_message.specs.Pieces.{pieces}
use Rattle.output.proofs.Laws.{then}
use Rattle.basis.proofs.Std.{rules}
use Rattle.write_report.proofs.alarms.alarm.Goals as goal

pub returns : goal.returns
unfolding pieces
returns c = then (then (then c.about-end.ensures c.label_behind-end.ensures) c.states-end.ensures) c.rest.ensures
