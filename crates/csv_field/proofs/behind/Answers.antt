use Rattle.basis.proofs.Std.{◌∙◌, sym, arith}
use Rattle.csv_field.proofs.Marks.{break_in}
use Rattle.csv_field.proofs.behind.Goals as goal

pub overflow_add-result : goal.overflow_add-result
overflow_add-result c = omega (arith, break_in c.args.s.now c.args.at (sym c.is_break.ensures ∙ c.if-is_break.true))

pub returns-then-is_break : goal.returns-then-is_break
returns-then-is_break c = sym (rw (sym c.is_break.ensures ∙ c.if-is_break.true))

pub returns-else-is_break : goal.returns-else-is_break
returns-else-is_break c = sym (rw (sym c.is_break.ensures ∙ c.if-is_break.false))
