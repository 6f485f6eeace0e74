use Rattle.basis.proofs.Std.{[], ◌∷◌, rules}
use Rattle.number.specs.Decimal.{decimal_of}
use Rattle.write_report.proofs.PassedOn.{passed}
use Rattle.output.proofs.Laws.{then}
use Rattle.write_report.proofs.status.known.Goals as goal

pub returns : goal.returns
returns c = then (then c.put_by-end.ensures (passed (λ z. decimal_of z ∷ []) c.ranges.v c.put_i32-end.ensures)) c.put_by.ensures
