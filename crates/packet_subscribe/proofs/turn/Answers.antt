-- `packet_subscribe::turn` meets its contract.
-- Assumes nothing.
use Rattle.store_table.specs.Layout.{table_of}
use Rattle.packet_subscribe.proofs.Changes.{turned_on, turned_off}
use Rattle.packet_subscribe.proofs.turn.Goals as goal

pub returns-then-subscribing : goal.returns-then-subscribing
returns-then-subscribing c =
    turned_on (table_of c.args.t.now) c.args.l c.args.time c.args.component c.args.entries c.args.count c.args.subscribing c.if-subscribing.true (c.replaced.ensures c.args.p.now) c.records.ensures

pub returns-else-subscribing : goal.returns-else-subscribing
returns-else-subscribing c =
    turned_off (table_of c.args.t.now) c.args.l c.args.time c.args.component c.args.entries c.args.count c.args.subscribing c.if-subscribing.false (c.replaced.ensures c.args.p.now)
