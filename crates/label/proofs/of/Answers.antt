use Rattle.label.proofs.Padded.{first_32}
use Rattle.label.proofs.of.Goals as goal

pub returns : goal.returns
returns c = rw c.copy_from_slice.ensures.after (first_32 c.args.s.now _ c.min-n.ensures)
