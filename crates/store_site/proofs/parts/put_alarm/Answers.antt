-- `store_site::parts::put_alarm` meets its contract.
-- Assumes nothing.
use Rattle.basis.proofs.Std.{arith, length-set, ◌+◌, ◌*◌, rules}
use Rattle.store_site.proofs.SiteLaws.{alarm_turns}
use Rattle.store_site.proofs.RowLaws.{alarm_put}
use Rattle.store_site.proofs.parts.put_alarm.Goals as goal

pub bounds-w-i-2 : goal.bounds-w-i-2
bounds-w-i-2 c = simp length-set (omega arith)

pub returns : goal.returns
returns c =
    alarm_turns c.args.w.now _ c.args.k c.args.x (search rules) (alarm_put c.args.w.now (561 + 2 * c.args.k) c.args.x (search rules) (search rules) (search rules) (search rules) (search rules) c.quad-states.ensures)
