-- `call_input::doing::change_alarm` meets its contract.
-- Assumes nothing.
use Rattle.store_site.proofs.TurnsLaws.{turns_moves, moves_then}
use Rattle.call_input.proofs.doing.change_alarm.Goals as goal

pub returns : goal.returns
returns c =
    moves_then (moves_then (turns_moves c.args.p.now c.put_alarm.ensures) c.add_alarm.ensures) (turns_moves c.add_alarm.new.p c.put_last.ensures)
