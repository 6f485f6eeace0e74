-- `call_link::left` meets its contract.
-- Assumes nothing.
use Rattle.store_site.proofs.TurnsLaws.{turns_moves, moves_then}
use Rattle.call_link.proofs.left.Goals as goal

pub returns : goal.returns
returns c =
    moves_then c.close.ensures (turns_moves c.close.new.p c.put_last.ensures)
