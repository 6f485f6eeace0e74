-- `store_pool::places::is_free` meets its contract.
-- Assumes nothing.
use Rattle.basis.proofs.Std.{ℕ, ap, eqb, rules}
use Rattle.store_pool.proofs.PlaceLaws.{mark_at}
use Rattle.store_pool.proofs.places.is_free.Goals as goal

pub returns : goal.returns
returns c = ap (λ (n : ℕ). eqb n 0) (mark_at c.args.w.now c.args.k (search rules))
