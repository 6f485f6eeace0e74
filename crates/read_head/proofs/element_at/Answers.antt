-- `read_head::element_at` meets its contract.
-- Assumes nothing.
use Rattle.basis.proofs.Std.{rules, sym, ◌∙◌}
use Rattle.read_head.specs.Word.{word_found}
use Rattle.read_head.proofs.element_at.Goals as goal

pub returns-in-Bad : goal.returns-in-Bad
unfolding word_found
returns-in-Bad c = c.unusable.ensures ∙ sym (rw c.in-Bad.is)

pub returns-in-End : goal.returns-in-End
unfolding word_found
returns-in-End c = c.value_at.ensures ∙ sym (rw c.in-End.is)
