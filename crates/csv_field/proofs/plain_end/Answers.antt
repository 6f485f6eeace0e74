use Rattle.basis.proofs.Std.{sym, ◌∙◌, arith, drop}
use Rattle.csv_field.proofs.Runs.{plain_past, plain_quote, plain_stop, plain_on}
use Rattle.csv_field.proofs.plain_end.Goals as goal
use Rattle.csv_field.proofs.plain_end.Goals.{then-is_at-via-then-is_at, then-is_at-via-else-is_at+then-is_stop}

pub returns-then-is_at : goal.returns-then-is_at
returns-then-is_at c =
    let t = drop c.loop-i.i c.args.s.now in
    elim c.then-is_at.branch [
      | then-is_at-via-then-is_at w ↦ omega (arith, c.loop-i.invariant, plain_quote t (sym c.is_at.ensures ∙ w.if-is_at.true))
      | then-is_at-via-else-is_at+then-is_stop w ↦ omega (arith, c.loop-i.invariant, plain_stop t (sym w.is_stop.ensures ∙ w.if-is_stop.true))
    ]

pub loop-i-preserved : goal.loop-i-preserved
loop-i-preserved c =
    omega (arith, c.loop-i.invariant, plain_on c.args.s.now c.loop-i.i c.loop-i-test.true (sym c.is_at.ensures ∙ c.if-is_at.false) (sym c.is_stop.ensures ∙ c.if-is_stop.false))

pub returns : goal.returns
returns c = omega (arith, c.loop-i.invariant, plain_past c.args.s.now c.loop-i.i c.loop-i-test.false)
