use Rattle.basis.proofs.Std.{sym, ◌∙◌, arith}
use Rattle.csv_field.proofs.Marks.{break_in}
use Rattle.csv_field.proofs.Runs.{line_past, line_break, line_on}
use Rattle.csv_field.proofs.line_end.Goals as goal

pub overflow_add-result : goal.overflow_add-result
overflow_add-result c = omega (arith, break_in c.args.s.now c.loop-i.i (sym c.is_break.ensures ∙ c.if-is_break.true))

pub returns-then-is_break : goal.returns-then-is_break
returns-then-is_break c =
    omega (arith, c.loop-i.invariant, line_break c.args.s.now c.loop-i.i c.loop-i-test.true (sym c.is_break.ensures ∙ c.if-is_break.true))

pub loop-i-preserved : goal.loop-i-preserved
loop-i-preserved c =
    omega (arith, c.loop-i.invariant, line_on c.args.s.now c.loop-i.i c.loop-i-test.true (sym c.is_break.ensures ∙ c.if-is_break.false))

pub returns : goal.returns
returns c = omega (arith, c.loop-i.invariant, line_past c.args.s.now c.loop-i.i c.loop-i-test.false)
