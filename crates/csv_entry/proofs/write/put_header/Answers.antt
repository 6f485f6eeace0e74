use Rattle.csv_entry.specs.Fields.{header_line}
use Rattle.csv_entry.proofs.write.put_header.Goals as goal

pub returns : goal.returns
unfolding header_line
returns c = c.put_bytes.ensures
