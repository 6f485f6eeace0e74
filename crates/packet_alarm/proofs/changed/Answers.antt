use Rattle.packet_alarm.proofs.Changes.{refuses, makes}
use Rattle.packet_alarm.proofs.changed.Goals as goal

pub returns-then-spent : goal.returns-then-spent
returns-then-spent c =
    λ t. refuses t c.args.p.now c.args.w.now c.args.q c.args.k c.args.c c.of_alarm-n.ensures c.spent.ensures c.if-spent.true

pub returns : goal.returns
returns c =
    λ t. makes t c.args.p.now c.args.w.now c.args.q c.args.k c.args.c c.of_alarm-n.ensures c.spent.ensures c.if-spent.false c.ack-end.ensures c.keep.ensures c.report.ensures
