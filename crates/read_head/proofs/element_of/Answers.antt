-- `read_head::element_of` meets its contract.
-- Assumes nothing.
use Rattle.basis.proofs.Std.{rules, ap, ◌∙◌}
use Rattle.read_head.specs.Word.{element_of}
use Rattle.read_head.proofs.Places.{found_word}
use Rattle.read_head.proofs.element_of.Goals as goal

pub returns : goal.returns
returns c = c.element_at.ensures ∙ ap element_of (found_word _ _ _ _ _ c.member_of.ensures)
