-- `read_head::label_at` meets its contract.
-- Assumes nothing.
use Rattle.basis.proofs.Std.{rules, ap, ◌∙◌}
use Rattle.read_head.specs.Word.{word_of}
use Rattle.read_head.specs.Values.{got_label}
use Rattle.read_head.proofs.Copies.{says, found_from}
use Rattle.read_head.proofs.label_at.Goals as goal

pub returns : goal.returns
returns c = c.label_of.ensures ∙ ap got_label (ap word_of c.element_at.ensures ∙ says (found_from _ _))
