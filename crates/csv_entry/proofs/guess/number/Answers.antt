use Rattle.basis.proofs.Std.{sym, ◌∙◌}
use Rattle.csv_entry.proofs.Guessing.{number_short, number_long}
use Rattle.csv_entry.proofs.guess.number.Goals as goal

pub returns-then-f-le15 : goal.returns-then-f-le15
returns-then-f-le15 c = c.said.ensures ∙ sym (number_short c.args.f.now c.if-f-le15.true)

pub returns : goal.returns
returns c = number_long c.args.f.now c.if-f-le15.false
