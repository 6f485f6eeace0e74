use Rattle.basis.proofs.Std.{sym, ◌∙◌, arith}
use Rattle.csv_field.proofs.Runs.{breaks_past, breaks_one, breaks_none}
use Rattle.csv_field.proofs.count_breaks.Goals as goal
use Rattle.csv_field.proofs.count_breaks.Goals.{then-is_break, else-is_break}

pub loop-i-preserved : goal.loop-i-preserved
loop-i-preserved c =
    let t = c.args.t.now in
    let l = c.loop-i in
    let b = sym c.is_break.ensures in
    elim c.if-is_break.branch [
      | then-is_break w ↦ (omega arith, omega (arith, l.invariant.1, breaks_one t l.i c.loop-i-test.true (b ∙ w.if-is_break.true)))
      | else-is_break w ↦ (omega arith, omega (arith, l.invariant.1, breaks_none t l.i c.loop-i-test.true (b ∙ w.if-is_break.false)))
    ]

pub returns : goal.returns
returns c = omega (arith, c.loop-i.invariant.1, breaks_past c.args.t.now c.loop-i.i c.loop-i-test.false)
