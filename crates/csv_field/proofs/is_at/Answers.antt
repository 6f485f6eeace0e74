use Rattle.basis.proofs.Std.{◌∙◌, le-ltb, length}
use Rattle.csv_field.proofs.Marks.{byte_at, byte_past}
use Rattle.csv_field.proofs.is_at.Goals as goal

pub returns-then-at-s : goal.returns-then-at-s
returns-then-at-s c = byte_at c.args.s.now c.args.at c.args.b

pub returns-else-at-s : goal.returns-else-at-s
returns-else-at-s c = le-ltb c.args.at (length c.args.s.now) c.if-at-s.false ∙ byte_past c.args.s.now c.args.at c.args.b c.requires c.if-at-s.false
