-- `pool::Pool::empty` meets its contract.
-- Assumes nothing.
use Rattle.basis.proofs.Std.{refl}
use Rattle.pool.specs.Pool.{empty_of}
use Rattle.pool.proofs.Pool.empty.Goals as goal

pub returns : goal.returns
unfolding empty_of
returns c = refl
