use Rattle.basis.proofs.Std.{ap, ℕ, eqb}
use Rattle.entry.proofs.flags.is_set.Goals as goal

pub returns : goal.returns
returns c = ap (λ (x : ℕ). eqb x 1) c.field.ensures
