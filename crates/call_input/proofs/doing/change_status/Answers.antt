-- `call_input::doing::change_status` meets its contract.
-- Assumes nothing.
use Rattle.store_site.proofs.TurnsLaws.{turns_moves, moves_then}
use Rattle.call_input.proofs.doing.change_status.Goals as goal

pub returns : goal.returns
returns c =
    moves_then (moves_then (turns_moves c.args.p.now c.put_status.ensures) c.add_statuses.ensures) (turns_moves c.add_statuses.new.p c.put_last.ensures)
