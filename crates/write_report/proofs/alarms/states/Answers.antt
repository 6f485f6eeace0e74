use Rattle.write_message.specs.Pieces.{state_pieces}
use Rattle.output.proofs.Laws.{then}
use Rattle.basis.proofs.Std.{rules}
use Rattle.write_report.proofs.alarms.states.Goals as goal

pub returns : goal.returns
unfolding state_pieces
returns c = then (then (then c.event-end.ensures c.choice-end.ensures) c.choice-end-2.ensures) c.choice.ensures
