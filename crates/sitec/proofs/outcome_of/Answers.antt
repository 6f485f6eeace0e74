-- `sitec::outcome_of` meets its contract.
-- Assumes nothing.
use Rattle.basis.proofs.Std.{refl}
use Rattle.sitec.proofs.outcome_of.Goals as goal

pub returns : goal.returns
returns c = rw (c.number_of.ensures, c.report_in-r.ensures) refl
