use Rattle.basis.proofs.Std.{not_both}
use Rattle.csvc.specs.Calls.{ReadsFirst}
use Rattle.csv_line.proofs.Taken.{header_decided}
use Rattle.csvc.proofs.Answers.{ordered, header_end}
use Rattle.csvc.proofs.read_first.Goals as goal

pub returns-then-is_header : goal.returns-then-is_header
returns-then-is_header c = ReadsFirst.header _ (ordered c.take_line-l.ensures).1 ((header_decided c.take_line-l.ensures c.is_header.ensures).yes c.if-is_header.true) c.read_on.ensures

pub returns : goal.returns
returns c = ReadsFirst.wrong_header (λ r p. not_both ((header_decided c.take_line-l.ensures c.is_header.ensures).only (header_end c.take_line-l.ensures r p)) c.if-is_header.false)
