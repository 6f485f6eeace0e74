use Rattle.basis.proofs.Std.{refl, sym, ap, ◌∙◌, length}
use Rattle.csvc.specs.Calls.{Writes}
use Rattle.csvc.proofs.Answers.{sixteen_bytes}
use Rattle.csvc.proofs.rsmp_csv_line.Goals as goal

pub returns-then-out-lt-ROOM : goal.returns-then-out-lt-ROOM
returns-then-out-lt-ROOM c = Writes.no_room c.if-out-lt-ROOM.true refl

pub returns : goal.returns
returns c = Writes.refused c.if-out-lt-ROOM.false (λ e v q. c.if-bytes-eq16.false (ap length (sym q) ∙ sixteen_bytes e)) refl
