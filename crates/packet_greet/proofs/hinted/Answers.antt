-- `packet_greet::hinted` meets its contract.
-- Assumes nothing.
use Rattle.basis.proofs.Std.{sym, ap}
use Rattle.site.specs.Call.{hint_bit}
use Rattle.packet_greet.proofs.Beats.{hints, withholds}
use Rattle.packet_greet.proofs.hinted.Goals as goal

pub returns-then-f-ge3 : goal.returns-then-f-ge3
returns-then-f-ge3 c =
    sym (ap hint_bit (hints c.args.role c.args.f c.in-Primary.is c.if-f-ge3.true))

pub returns-else-f-ge3 : goal.returns-else-f-ge3
returns-else-f-ge3 c =
    sym (ap hint_bit (withholds c.args.role c.args.f c.in-Primary.is c.if-f-ge3.false))
