use Rattle.basis.proofs.Std.{◌≡◌, sym, ◌∙◌, rules}
use Rattle.std.specs.Prelude.{Err}
use Rattle.csv_entry.specs.declared.Reason.TheVariants.{Quoting}
use Rattle.csv_line.proofs.Taken.{line_judged, line_counted, line_spoilt}
use Rattle.csv_line.proofs.judge_line.Goals as goal

pub returns-in_err-n : goal.returns-in_err-n
returns-in_err-n c =
    let is : c.from_residual.result ≡ Err Quoting = search rules in
    rw is (line_spoilt (sym c.ok_or.ensures.value ∙ c.in_err-n.was))

pub returns-then-n-ne12 : goal.returns-then-n-ne12
returns-then-n-ne12 c = line_counted (sym c.ok_or.ensures.value ∙ c.in_ok-n.was) c.if-n-ne12.true

pub returns : goal.returns
returns c = line_judged (sym c.ok_or.ensures.value ∙ c.in_ok-n.was) c.if-n-ne12.false c.judge.ensures
