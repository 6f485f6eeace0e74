-- `packet_subscribe::change` meets its contract.
-- Assumes nothing.
use Rattle.store_table.specs.Layout.{table_of}
use Rattle.packet_subscribe.proofs.Changes.{change_refused, change_done}
use Rattle.packet_subscribe.proofs.change.Goals as goal

pub returns-then-spent : goal.returns-then-spent
returns-then-spent c =
    change_refused c.args.subscribing (table_of c.args.t.now) c.args.q c.args.f c.args.component c.args.p.now c.args.w.now c.requires.3 c.number.ensures c.spent.ensures c.if-spent.true

pub returns : goal.returns
returns c =
    change_done c.args.subscribing (table_of c.args.t.now) c.args.q c.args.f c.args.component c.args.p.now c.args.w.now c.requires.3 c.number.ensures c.spent.ensures c.if-spent.false c.ack-end.ensures c.turn.ensures c.done.ensures.0 c.done.ensures.1
