-- `store_site::parts::put_subscription` meets its contract.
-- Assumes nothing.
use Rattle.basis.proofs.Std.{arith, length-set, ◌+◌, ◌*◌, rules}
use Rattle.store_site.proofs.SiteLaws.{subscription_turns}
use Rattle.store_site.proofs.RowLaws.{subscription_put}
use Rattle.store_site.proofs.parts.put_subscription.Goals as goal

pub bounds-w-i-2 : goal.bounds-w-i-2
bounds-w-i-2 c = simp length-set (omega arith)

pub returns : goal.returns
returns c =
    subscription_turns c.args.w.now _ c.args.k c.args.x (search rules) (subscription_put c.args.w.now (305 + 2 * c.args.k) c.args.x (search rules) (search rules) (search rules) c.pair-numbers.ensures)
