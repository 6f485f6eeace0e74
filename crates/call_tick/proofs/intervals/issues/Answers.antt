-- `call_tick::intervals::issues` meets its contract.
-- Assumes nothing.
use Rattle.basis.proofs.Std.{refl}
use Rattle.call_tick.proofs.intervals.issues.Goals as goal

pub returns : goal.returns
returns c = λ ps t. rw (c.on_tick-t.ensures, c.subscription-x.ensures ps t) refl
