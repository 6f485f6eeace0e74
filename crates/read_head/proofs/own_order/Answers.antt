use Rattle.basis.proofs.Std.{rules, ap, ◌∙◌}
use Rattle.read_head.specs.Word.{word_of}
use Rattle.read_head.proofs.Copies.{says, found_at}
use Rattle.read_head.specs.Values.{got_order}
use Rattle.read_head.proofs.own_order.Goals as goal

pub returns : goal.returns
returns c = c.order_of.ensures ∙ ap got_order (ap word_of c.element_of.ensures ∙ says (found_at _ _))
