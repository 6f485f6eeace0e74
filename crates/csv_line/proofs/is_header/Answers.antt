use Rattle.csv_line.proofs.Taken.{header_noted}
use Rattle.csv_line.proofs.is_header.Goals as goal

pub returns-then-n-eq12 : goal.returns-then-n-eq12
returns-then-n-eq12 c = header_noted c.in-Some.is c.if-n-eq12.true c.are_columns.ensures
