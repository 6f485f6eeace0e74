-- `packet_subscribe::replace` meets its contract.
-- Assumes nothing.
use Rattle.basis.proofs.Std.{sym, ◌∙◌}
use Rattle.packet_subscribe.specs.Subscribing.{wanted as wanted_of}
use Rattle.packet_subscribe.proofs.Loops.{replaced_like, replaced_one, not_replaced}
use Rattle.packet_subscribe.proofs.replace.Goals as goal

pub returns-in-Is : goal.returns-in-Is
returns-in-Is c =
    replaced_one c.args.w.now c.args.l (sym c.in-Is.is ∙ c.status-status.ensures) c.place.ensures c.wanted-x.ensures c.put_subscription.ensures

pub returns-in-Nothing : goal.returns-in-Nothing
returns-in-Nothing c =
    let x = wanted_of c.args.subscribing c.args.e c.args.time in
    replaced_like c.args.w.now c.args.l x (sym c.in-Nothing.is ∙ c.status-status.ensures) (not_replaced c.args.w.now c.args.l x)
