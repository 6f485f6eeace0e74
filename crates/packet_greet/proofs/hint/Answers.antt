-- `packet_greet::hint` meets its contract.
-- Assumes nothing.
use Rattle.basis.proofs.Std.{sym, ap}
use Rattle.site.specs.Call.{hint_time}
use Rattle.packet_greet.proofs.Beats.{hints, withholds}
use Rattle.packet_greet.proofs.hint.Goals as goal

pub returns-then-f-ge3 : goal.returns-then-f-ge3
returns-then-f-ge3 c =
    sym (ap hint_time (hints c.args.role c.args.f c.in-Primary.is c.if-f-ge3.true))

pub returns-else-f-ge3 : goal.returns-else-f-ge3
returns-else-f-ge3 c =
    sym (ap hint_time (withholds c.args.role c.args.f c.in-Primary.is c.if-f-ge3.false))
