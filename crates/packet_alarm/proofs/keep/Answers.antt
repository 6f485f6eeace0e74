use Rattle.store_site.proofs.TurnsLaws.{turns_moves, moves_then}
use Rattle.packet_alarm.proofs.keep.Goals as goal

pub returns : goal.returns
returns c =
    moves_then (moves_then (turns_moves _ c.put_alarm.ensures) c.add_alarm.ensures) (turns_moves _ c.put_last.ensures)
