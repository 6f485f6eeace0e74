use Rattle.basis.proofs.Std.{not_both}
use Rattle.csv_field.specs.Places.{texts_of}
use Rattle.csv_entry.specs.Judged.{Holds}
use Rattle.csv_entry.proofs.Judging.{not_valid, not_its}
use Rattle.csv_entry.proofs.judge.contents.Goals as goal
use Rattle.csv_entry.proofs.judge.contents.Goals.{else-valid-via-then-valid+else-is_line_of, else-valid-via-else-valid}

pub returns-then-is_line_of : goal.returns-then-is_line_of
returns-then-is_line_of c = Holds.one (c.valid.ensures.yes c.if-valid.true) (c.is_line_of.ensures.yes c.if-is_line_of.true)

pub returns : goal.returns
returns c =
    let ds = texts_of c.args.texts.now in
    let g = c.guess-e in
    elim c.else-valid.branch [
      | else-valid-via-then-valid+else-is_line_of w ↦ not_its c.args.k ds g.result g.ensures (λ h. not_both (w.is_line_of.ensures.only h) w.if-is_line_of.false)
      | else-valid-via-else-valid w ↦ not_valid c.args.k ds g.result g.ensures (λ h. not_both (c.valid.ensures.only h) w.if-valid.false)
    ]
