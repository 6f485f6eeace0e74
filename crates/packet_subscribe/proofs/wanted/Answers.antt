use Rattle.packet_subscribe.proofs.wanted.Goals as goal

pub returns-then-subscribing : goal.returns-then-subscribing
returns-then-subscribing c = rw c.if-subscribing.true c.subscribe.ensures
