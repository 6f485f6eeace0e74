use Rattle.basis.proofs.Std.{rules, ◌∙◌}
use Rattle.read_head.proofs.Places.{value_past, value_other, value_string}
use Rattle.read_head.proofs.value_at.Goals as goal

pub returns-then-s-at : goal.returns-then-s-at
returns-then-s-at c = c.unusable.ensures ∙ value_past _ _ c.if-s-at.true

pub returns-then-s-at-ne34 : goal.returns-then-s-at-ne34
returns-then-s-at-ne34 c = c.unusable-then-s-at-ne34.ensures ∙ value_other _ _ c.if-s-at.false c.if-s-at-ne34.true

pub returns : goal.returns
returns c = rw c.copy_text.ensures (value_string _ _ c.if-s-at.false c.if-s-at-ne34.false)
