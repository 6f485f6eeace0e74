-- `json_sure::object` meets its contract.
-- Assumes nothing.
use Rattle.json_sure.proofs.Room.{judged_short}
use Rattle.json_sure.proofs.object.Goals as goal

pub returns-then-s-le640 : goal.returns-then-s-le640
returns-then-s-le640 c =
    (judged_short c.args.key c.args.s.now 7 c.args.at _ c.if-s-le640.true c.object_short.ensures.0, c.object_short.ensures.1)
