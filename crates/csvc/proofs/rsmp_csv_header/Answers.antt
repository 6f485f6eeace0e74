use Rattle.basis.proofs.Std.{refl}
use Rattle.csvc.specs.Calls.{Heads}
use Rattle.csvc.proofs.Answers.{header_told}
use Rattle.csvc.proofs.rsmp_csv_header.Goals as goal

pub returns-then-out-lt-HEADER : goal.returns-then-out-lt-HEADER
returns-then-out-lt-HEADER c = Heads.no_room c.if-out-lt-HEADER.true refl

pub returns : goal.returns
returns c = header_told c.put_header-n.ensures c.if-out-lt-HEADER.false
