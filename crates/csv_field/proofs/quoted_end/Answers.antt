use Rattle.basis.proofs.Std.{◌+◌, refl, ◌∙◌, sym, arith}
use Rattle.csv_field.proofs.Marks.{quote_in}
use Rattle.csv_field.proofs.Runs.{quoted_past, quoted_on, quoted_close, quoted_twice}
use Rattle.csv_field.proofs.quoted_end.Goals as goal

pub loop-i-init : goal.loop-i-init
loop-i-init c = refl

pub overflow_add-i : goal.overflow_add-i
overflow_add-i c = omega arith

pub overflow_add-i-then-is_at-2 : goal.overflow_add-i-then-is_at-2
overflow_add-i-then-is_at-2 c =
    let s = c.args.s.now in
    omega (arith, quote_in s (c.loop-i.i + 1) (sym c.is_at-then-is_at.ensures ∙ c.if-is_at-2.true))

pub loop-i-smaller-then-is_at-2 : goal.loop-i-smaller-then-is_at-2
loop-i-smaller-then-is_at-2 c = omega arith

pub loop-i-preserved-then-is_at-2 : goal.loop-i-preserved-then-is_at-2
loop-i-preserved-then-is_at-2 c =
    let s = c.args.s.now in
    omega (arith, c.loop-i.invariant, quoted_twice s c.loop-i.i (sym c.is_at.ensures ∙ c.if-is_at.true) (sym c.is_at-then-is_at.ensures ∙ c.if-is_at-2.true))

pub returns-then-is_at : goal.returns-then-is_at
returns-then-is_at c =
    let s = c.args.s.now in
    omega (arith, c.loop-i.invariant, quoted_close s c.loop-i.i (sym c.is_at.ensures ∙ c.if-is_at.true) (sym c.is_at-then-is_at.ensures ∙ c.if-is_at-2.false))

pub overflow_add-i-in-loop-i : goal.overflow_add-i-in-loop-i
overflow_add-i-in-loop-i c = omega arith

pub loop-i-smaller : goal.loop-i-smaller
loop-i-smaller c = omega arith

pub loop-i-preserved : goal.loop-i-preserved
loop-i-preserved c =
    let s = c.args.s.now in
    omega (arith, c.loop-i.invariant, quoted_on s c.loop-i.i c.loop-i-test.true (sym c.is_at.ensures ∙ c.if-is_at.false))

pub returns : goal.returns
returns c =
    omega (arith, c.loop-i.invariant, quoted_past c.args.s.now c.loop-i.i c.loop-i-test.false)
