-- `packet_subscribe::asking_on` meets its contract.
-- Assumes nothing.
use Rattle.basis.proofs.Std.{◌∙◌}
use Rattle.packet_subscribe.proofs.asking_on.Goals as goal

pub returns : goal.returns
returns c ps t = c.asking_by.ensures ∙ rw (c.major.ensures ps t, c.minor.ensures ps t, c.patch.ensures ps t)
