use Rattle.basis.proofs.Std.{rules, ap, ◌∙◌}
use Rattle.read_head.specs.Word.{word_of}
use Rattle.read_head.proofs.Copies.{says, found_at}
use Rattle.read_head.specs.Values.{got_label}
use Rattle.read_head.proofs.label_in.Goals as goal

pub returns : goal.returns
returns c = c.label_of.ensures ∙ ap got_label (ap word_of c.element_in.ensures ∙ says (found_at _ _))
