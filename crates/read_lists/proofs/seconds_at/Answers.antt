-- `read_lists::seconds_at` meets its contract.
-- Assumes nothing.
use Rattle.basis.proofs.Std.{ap, ◌∙◌}
use Rattle.read_head.specs.Word.{word_of}
use Rattle.read_head.proofs.Copies.{says, found_from}
use Rattle.read_lists.specs.Status.{got_seconds}
use Rattle.read_lists.proofs.seconds_at.Goals as goal

pub returns : goal.returns
returns c = c.seconds_of.ensures ∙ ap got_seconds (ap word_of c.element_at.ensures ∙ says (found_from _ _))
