use Rattle.read_lists.proofs.Walk.{begins_past, begins_here}
use Rattle.read_lists.proofs.begins.Goals as goal

pub returns-then-s-at : goal.returns-then-s-at
returns-then-s-at c = begins_past _ _ _ c.if-s-at.true

pub returns : goal.returns
returns c = begins_here _ _ _ c.if-s-at.false
