use Rattle.basis.proofs.Std.{text, rules}
use Rattle.write_message.specs.Pieces.{known_pieces, value_pieces}
use Rattle.write_report.proofs.PassedOn.{passed}
use Rattle.write_report.proofs.status.value.Goals as goal

pub returns-in-Recent : goal.returns-in-Recent
unfolding value_pieces
returns-in-Recent c = rw c.in-Recent.is (passed (λ z. known_pieces c.args.kind z (text "\",\"q\":\"recent\"}") (text "\",\"age\":\"recent\"}")) (search rules) c.known.ensures)

pub returns-in-Old : goal.returns-in-Old
unfolding value_pieces
returns-in-Old c = rw c.in-Old.is (passed (λ z. known_pieces c.args.kind z (text "\",\"q\":\"old\"}") (text "\",\"age\":\"old\"}")) (search rules) c.known-in-Old.ensures)

pub returns-in-Unknown : goal.returns-in-Unknown
unfolding value_pieces
returns-in-Unknown c = rw c.in-Unknown.is c.put_by.ensures

pub returns-in-Undefined : goal.returns-in-Undefined
unfolding value_pieces
returns-in-Undefined c = rw c.in-Undefined.is c.put_by-in-Undefined.ensures
